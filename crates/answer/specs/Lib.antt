pub mod Answer
pub mod Said
pub mod Codes
pub mod Inner
pub mod Reasons
