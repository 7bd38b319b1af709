pub mod Placing
pub mod Texts
pub mod Proses
pub mod Streams
