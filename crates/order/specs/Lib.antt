pub mod Total
pub mod Listed
pub mod Orders
pub mod Compared
