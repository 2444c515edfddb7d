pub mod Table93
pub mod Table92
pub mod Table94
pub mod Longest
