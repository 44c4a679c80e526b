pub mod Class
pub mod White
pub mod Utf8Form
pub mod Trim
pub mod Inner
