pub mod Runs
pub mod Hits
pub mod Inner
