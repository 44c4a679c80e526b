pub mod Reading
pub mod Assign
pub mod Uses
pub mod Inner
