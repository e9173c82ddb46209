pub mod FirstPlace
pub mod Face
pub mod Refused
pub mod Question
pub mod WhichBlocks
pub mod Tight
