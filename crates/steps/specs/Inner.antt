pub mod Bounds
pub mod Left
pub mod Few
