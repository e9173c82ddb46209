pub mod IdleSound
pub mod Tight
