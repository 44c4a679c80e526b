pub mod TempLaws
pub mod PassLaws
pub mod Lacks
pub mod TableLaws
pub mod Keeps
pub mod Examples
