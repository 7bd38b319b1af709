pub mod Stays
pub mod Removes
pub mod Adds
pub mod Added
pub mod Reports
pub mod Runs
pub mod Ends
