pub mod Scratch
pub mod Once
pub mod Inner
