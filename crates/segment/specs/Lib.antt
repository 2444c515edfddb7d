pub mod Segment
pub mod Listed
pub mod Code
