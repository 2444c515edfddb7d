pub mod KeepLaws
pub mod Unique
