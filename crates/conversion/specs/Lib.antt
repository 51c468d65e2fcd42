pub mod Kept
pub mod Converted
pub mod Graph
pub mod Inner
