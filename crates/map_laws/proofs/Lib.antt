pub mod Stands
pub mod Answers
pub mod MapLaws
