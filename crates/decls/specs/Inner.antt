pub mod Decls
pub mod Print
pub mod Seen
pub mod Firsts
