pub mod Layout
pub mod Read
