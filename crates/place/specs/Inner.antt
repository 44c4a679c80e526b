pub mod Region
pub mod Blocks
pub mod Paths
pub mod Ends
pub mod Loops
pub mod Starts
pub mod Fill
pub mod Parents
