pub mod Answered
pub mod Rooms
