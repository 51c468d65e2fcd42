pub mod Sections
pub mod Rows
pub mod Links
pub mod Trees
pub mod Fixed
pub mod States
