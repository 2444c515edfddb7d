pub mod Window
pub mod Narrow
