pub mod Judged
pub mod Records
pub mod Told
pub mod Tight
