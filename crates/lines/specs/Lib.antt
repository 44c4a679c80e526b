pub mod Ascii
pub mod Lf
pub mod Steps
pub mod Acts
pub mod Inner
