pub mod Each
pub mod Lf
pub mod Out
pub mod Pieces
