pub mod Replies
pub mod Chains
pub mod Inner
