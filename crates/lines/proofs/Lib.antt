pub mod Tests
pub mod LfLaws
pub mod Chains
pub mod Words8
pub mod Starts
pub mod Compare
pub mod OutLaws
pub mod StepLaws
pub mod Lacking
pub mod Fills
mod Whole
pub mod Counts
pub mod JoinLaws
pub mod ActLaws
pub mod EachLaws
pub mod EachLists
pub mod Examples
