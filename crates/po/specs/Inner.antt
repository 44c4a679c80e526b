pub mod Walk
pub mod ReadWalk
pub mod Index
pub mod Units
