pub mod Head
pub mod Code
