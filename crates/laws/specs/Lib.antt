pub mod Waiting
pub mod Writes
pub mod DriverLaws
