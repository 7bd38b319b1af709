pub mod Held
pub mod Tabled
pub mod Gathers
pub mod Sums
pub mod Pairs
pub mod Grows
