pub mod Lines
pub mod Record
pub mod Listing
pub mod Files
pub mod Resuming
pub mod Turn
