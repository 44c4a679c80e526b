pub mod Codes
pub mod Written
pub mod Thin
