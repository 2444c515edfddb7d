pub mod Hex
pub mod Line
pub mod Next
pub mod Field
pub mod Steps
pub mod Same
pub mod Code
