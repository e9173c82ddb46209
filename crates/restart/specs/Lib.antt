pub mod Cuts
pub mod Restart
