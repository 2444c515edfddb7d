pub mod PassLaws
pub mod ToldLaws
pub mod Unique
