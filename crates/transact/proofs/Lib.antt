pub mod Filled
pub mod Outputs
pub mod Driven
pub mod Tight
