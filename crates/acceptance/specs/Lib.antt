pub mod Flasher
pub mod Construction
pub mod Accepts
