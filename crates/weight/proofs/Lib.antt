pub mod Weigh
pub mod Pays
pub mod Moves
pub mod Braces
