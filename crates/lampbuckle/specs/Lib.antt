pub mod Answer
pub mod Numbers
pub mod Lines
pub mod Call
pub mod Write
pub mod Resume
pub mod Code
