pub mod Face
pub mod Version
