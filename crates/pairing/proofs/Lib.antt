pub mod Tallying
pub mod Crossing
pub mod Leads
pub mod Grouped
pub mod Walked
pub mod Outcomes
