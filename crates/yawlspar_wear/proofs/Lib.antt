pub mod Face
pub mod Tight
