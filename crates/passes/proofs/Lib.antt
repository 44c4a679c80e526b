pub mod Between
pub mod ChainLaws
pub mod WorkLaws
