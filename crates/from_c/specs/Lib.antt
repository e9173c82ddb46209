pub mod Driven
pub mod Holding
pub mod FromC
pub mod LawsFromC
pub mod RestartFromC
pub mod AcceptsFromC
pub mod MapFromC
