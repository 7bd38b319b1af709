pub mod Members
pub mod Rises
pub mod Joins
pub mod Bridges
