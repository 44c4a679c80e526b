pub mod Chained
pub mod Shown
