pub mod Rises
pub mod Found
pub mod Edited
pub mod Answers
pub mod Gathered
