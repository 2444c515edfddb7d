pub mod HeadLaws
pub mod Unique
