pub mod Pass
pub mod Last
