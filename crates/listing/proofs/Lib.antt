pub mod Lines
pub mod Writing
pub mod Cases
