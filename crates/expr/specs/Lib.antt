pub mod Fix
pub mod Comments
pub mod Quotes
pub mod Pure
pub mod Inner
