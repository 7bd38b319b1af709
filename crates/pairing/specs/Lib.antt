pub mod Scopes
pub mod Groups
pub mod Tallies
