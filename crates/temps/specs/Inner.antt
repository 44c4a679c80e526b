pub mod Scratch
pub mod Table
