pub mod Text
pub mod Listing
pub mod Printed
pub mod Inner
