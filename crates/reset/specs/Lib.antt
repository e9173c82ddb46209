pub mod Closing
pub mod Demand3
