pub mod First
pub mod Code
pub mod Files
