pub mod InBytes
pub mod Tight
