pub mod Checked
pub mod Clips
pub mod Symbols
pub mod Unaligned
pub mod Head
pub mod Aligned
pub mod Code
