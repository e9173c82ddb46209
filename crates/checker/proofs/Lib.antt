pub mod Failing
pub mod Said
pub mod InBytes
pub mod Tight
