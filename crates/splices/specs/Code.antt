pub mod Taken
pub mod Mapping
pub mod Walk
