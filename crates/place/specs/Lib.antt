pub mod Region
pub mod Blocks
pub mod Paths
pub mod Loops
pub mod Starts
pub mod Inner
