pub mod Parents
pub mod Heights
pub mod Nesting
