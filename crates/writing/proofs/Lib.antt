pub mod LayLaws
pub mod WholeLaws
pub mod DecimalLaws
pub mod Unique
