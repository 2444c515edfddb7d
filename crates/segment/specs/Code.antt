pub mod Length
pub mod Whole
pub mod Ready
