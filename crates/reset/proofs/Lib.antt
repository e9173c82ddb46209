pub mod Aside
pub mod Steps
pub mod Armed
pub mod Theorem
pub mod Demand3
