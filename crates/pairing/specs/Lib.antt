pub mod Table60
pub mod Pairing
