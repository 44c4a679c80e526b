pub mod Tables
pub mod Noted
pub mod Moves
