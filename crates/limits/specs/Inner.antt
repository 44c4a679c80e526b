pub mod Sane
