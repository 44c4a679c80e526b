pub mod Answer
pub mod Entry
pub mod Inner
