pub mod Plans
pub mod Stores
pub mod States
pub mod Removal
pub mod Adding
pub mod Running
