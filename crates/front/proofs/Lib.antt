pub mod UnitLaws
pub mod PairLaws
pub mod ReferenceLaws
pub mod Examples
pub mod Unique
pub mod RefusalLaws
