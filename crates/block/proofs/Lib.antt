pub mod Steps
pub mod SymbolLaws
pub mod LengthLaws
pub mod ReadyLaws
pub mod Unique
pub mod RefusalLaws
pub mod HeadLaws
