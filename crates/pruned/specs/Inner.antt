pub mod Fit
pub mod Marks
pub mod Walk
pub mod Judged
