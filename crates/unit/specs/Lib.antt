pub mod Unit
pub mod Pairs
pub mod Kinds
