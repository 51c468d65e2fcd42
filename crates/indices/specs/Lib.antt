pub mod Tests
pub mod Steps
pub mod Columns
