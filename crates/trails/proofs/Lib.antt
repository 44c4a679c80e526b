pub mod TrailLaws
pub mod Loops
