pub mod Laws
pub mod Tight
