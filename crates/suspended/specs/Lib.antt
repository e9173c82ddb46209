pub mod Interrupted
pub mod UnderWay
