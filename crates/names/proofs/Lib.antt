pub mod Digits
pub mod Equal
pub mod Decimal
pub mod Texts
