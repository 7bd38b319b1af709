pub mod Surgery
pub mod Writes
pub mod Inflow
