pub mod Laying
pub mod Represented
