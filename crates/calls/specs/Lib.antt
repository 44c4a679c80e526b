pub mod Leaves
pub mod LeavesOf
pub mod Calls
pub mod Inner
