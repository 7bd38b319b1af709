pub mod Counts
pub mod Reports
pub mod Holding
pub mod Promises
