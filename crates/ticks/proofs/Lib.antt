pub mod OneMemory
pub mod Waited
pub mod InBytes
pub mod Tight
