pub mod FlawLaws
pub mod Cutting
pub mod Completing
pub mod Excluding
pub mod Examples
