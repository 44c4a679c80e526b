pub mod Rounds
pub mod Table
