pub mod Walk
pub mod Each
