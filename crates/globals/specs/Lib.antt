pub mod Globals
pub mod Inner
