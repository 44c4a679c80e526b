pub mod Ors
pub mod PrimaryLaws
pub mod BreaksLaws
pub mod Examples
