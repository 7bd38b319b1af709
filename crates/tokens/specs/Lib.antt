pub mod Tokens
pub mod Texts
pub mod Bytes
pub mod Proses
pub mod Collecting
