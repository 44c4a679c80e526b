pub mod Tame
pub mod StepLaws
pub mod Traces
pub mod Goings
pub mod Trails
pub mod Idling
