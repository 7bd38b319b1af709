pub mod Shares
pub mod Passages
