pub mod Logic
pub mod Lists
pub mod Bits
