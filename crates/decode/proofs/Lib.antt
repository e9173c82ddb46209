pub mod Codes
pub mod Tight
