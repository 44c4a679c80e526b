pub mod Whole
pub mod Room
pub mod Inner
