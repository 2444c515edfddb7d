pub mod Place
pub mod Placed
pub mod Code
