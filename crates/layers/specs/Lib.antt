pub mod Layers
pub mod Onwards
pub mod Names
pub mod Naming
