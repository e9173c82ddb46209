pub mod Steps
pub mod InBytes
