pub mod UseLaws
pub mod AssignLaws
pub mod Lined
mod Digits
