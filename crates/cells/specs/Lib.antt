pub mod Kinds
pub mod Operations
