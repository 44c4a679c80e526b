pub mod Slots
pub mod Gather
