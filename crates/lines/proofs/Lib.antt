pub mod Characters
pub mod Numerals
pub mod Lines
pub mod Tight
