pub mod Table62
pub mod Located
pub mod Code
