pub mod Blank
pub mod Clear
pub mod Marks
pub mod Memories
pub mod Kept
pub mod Taken
pub mod Tight
