pub mod Lent
pub mod Plan
pub mod Said
pub mod Code
