pub mod Course
pub mod Fits
pub mod Lent
pub mod Tight
