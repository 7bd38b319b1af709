pub mod Tested
pub mod Alike
pub mod Grown
pub mod Windows
