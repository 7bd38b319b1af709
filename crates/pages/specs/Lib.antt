pub mod Pages
pub mod Sides
pub mod Worked
