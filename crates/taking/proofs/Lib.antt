pub mod Taking
pub mod Decoding
pub mod Reading
pub mod Unique
