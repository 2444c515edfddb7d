pub mod EditLaws
pub mod PieceLaws
pub mod FlankLaws
pub mod FlankPieceLaws
pub mod Unique
pub mod RefusalLaws
