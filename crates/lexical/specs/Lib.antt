pub mod Lex
pub mod Phi
pub mod Idents
pub mod Joined
pub mod Inner
