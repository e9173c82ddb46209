pub mod InOrder
pub mod Tight
