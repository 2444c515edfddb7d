pub mod Ready
pub mod Ended
