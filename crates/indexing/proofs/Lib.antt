pub mod Index
pub mod Reorders
pub mod Counts
pub mod Pairs
pub mod Reports
