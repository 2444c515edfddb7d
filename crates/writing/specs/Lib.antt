pub mod Lay
pub mod Whole
pub mod Decimal
