pub mod Keep
pub mod code
