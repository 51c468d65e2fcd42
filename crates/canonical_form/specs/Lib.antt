pub mod Numbering
pub mod Canonical
pub mod Alike
pub mod Inner
