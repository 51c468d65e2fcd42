pub mod Entries
pub mod Trees
pub mod Reading
pub mod Repair
