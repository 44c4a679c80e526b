pub mod Comments
pub mod Pure
