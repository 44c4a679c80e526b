pub mod Class
pub mod Utf8Form
