pub mod Copied
pub mod Differing
pub mod Tight
