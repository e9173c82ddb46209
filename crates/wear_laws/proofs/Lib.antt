pub mod Totals
pub mod Stands
pub mod Answers
pub mod WearLaws
