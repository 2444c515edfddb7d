pub mod Table35
pub mod Code
