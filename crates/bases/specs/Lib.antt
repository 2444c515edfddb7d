pub mod Reference
pub mod Bases
pub mod Spliced
pub mod Alignment
pub mod Code
