pub mod Bytes
pub mod Tight
