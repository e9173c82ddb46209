pub mod Lent
pub mod LineEnd
