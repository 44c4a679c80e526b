pub mod Engines
pub mod EngineLaws
pub mod Examples
