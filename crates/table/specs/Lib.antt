pub mod Countable
pub mod Writable
pub mod Fits
