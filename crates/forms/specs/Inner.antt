pub mod Breaks
pub mod Control
