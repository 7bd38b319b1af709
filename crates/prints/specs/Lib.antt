pub mod Grams
pub mod Hashes
pub mod Choice
pub mod Worked
pub mod Best
pub mod Window
pub mod Walk
pub mod Listed
