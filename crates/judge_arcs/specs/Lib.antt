pub mod Joined
pub mod Fields
