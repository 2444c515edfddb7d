pub mod Ready
pub mod Flow
