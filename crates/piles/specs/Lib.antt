pub mod Piles
pub mod Lines
pub mod Words
