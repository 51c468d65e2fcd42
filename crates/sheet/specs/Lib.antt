pub mod Limits
pub mod Words
pub mod Sections
pub mod Arcs
pub mod Heights
pub mod Regions
pub mod Inner
pub mod Kinds
