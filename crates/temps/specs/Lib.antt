pub mod Temps
pub mod Inner
