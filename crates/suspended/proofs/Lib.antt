pub mod HaltedKept
pub mod NestedBytes
pub mod UnderWay
pub mod Proceeds
pub mod EraseResumed
