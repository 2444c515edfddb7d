pub mod Take
pub mod Steps
pub mod Reading
