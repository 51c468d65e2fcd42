pub mod Counted
pub mod Figures
