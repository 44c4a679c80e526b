pub mod Decls
pub mod Inner
