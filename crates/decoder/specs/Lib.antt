pub mod Files
pub mod Decoder
pub mod Standard
pub mod Symbols
pub mod Ending
pub mod Turned
