pub mod AlphabetLaws
pub mod Unique
