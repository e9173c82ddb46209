pub mod OneByOne
pub mod OneStep
pub mod InBytes
pub mod WearInBytes
pub mod Tight
