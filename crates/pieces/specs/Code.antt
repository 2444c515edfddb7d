pub mod Checked
pub mod Written
