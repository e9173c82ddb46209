pub mod TextLaws
pub mod Tight
