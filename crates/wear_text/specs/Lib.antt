pub mod Page
pub mod TextLaws
