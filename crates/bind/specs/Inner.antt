pub mod Steps
pub mod Index
pub mod Sites
