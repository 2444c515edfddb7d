pub mod Table90
pub mod Ecigar
pub mod Spliced
pub mod Check
pub mod Code
