pub mod EntryLaws
pub mod Whole
