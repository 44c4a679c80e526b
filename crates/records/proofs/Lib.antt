pub mod Columns
pub mod Down
pub mod Laws
pub mod Shown
pub mod Filled
