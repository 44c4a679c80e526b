pub mod Step
pub mod Twice
pub mod Reprint
pub mod Again
pub mod LineCr
pub mod Shedding
pub mod Examples
