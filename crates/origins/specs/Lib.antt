pub mod Form
pub mod Read
pub mod Answers
pub mod Fates
pub mod Thin
pub mod Inner
