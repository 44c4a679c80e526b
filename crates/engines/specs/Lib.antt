pub mod Engines
pub mod Inner
