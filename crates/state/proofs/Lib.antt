pub mod FillLaws
pub mod StateLaws
pub mod ListedLaws
pub mod HeadLaws
pub mod NumberLaws
pub mod Unique
