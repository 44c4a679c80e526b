pub mod SlotLaws
pub mod GatherLaws
pub mod Examples
