pub mod Phis
pub mod Moves
pub mod Inner
