pub mod Bind
pub mod Inner
