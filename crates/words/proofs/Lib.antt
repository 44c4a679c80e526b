pub mod RunLaws
pub mod HitLaws
pub mod Places
pub mod Glue
pub mod Walk
pub mod Short
