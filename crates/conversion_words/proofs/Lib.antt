pub mod Selected
pub mod Sheet
