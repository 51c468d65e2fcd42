pub mod Numbers
pub mod Room
