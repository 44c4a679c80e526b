pub mod Control
pub mod Primary
pub mod Breaks
pub mod Inner
