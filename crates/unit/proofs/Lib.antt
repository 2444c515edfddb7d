pub mod ValidLaws
pub mod Unique
pub mod RefusalLaws
