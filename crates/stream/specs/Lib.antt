pub mod Source
pub mod Code
