pub mod Back
pub mod ByKind
pub mod Own
pub mod Tight
