pub mod Layers
pub mod Onwards
pub mod Joining
