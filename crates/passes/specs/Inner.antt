pub mod Passes
pub mod Buffers
