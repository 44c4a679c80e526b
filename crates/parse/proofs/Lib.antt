pub mod ParseLaws
pub mod Plain
pub mod PlainLine
pub mod Shut
