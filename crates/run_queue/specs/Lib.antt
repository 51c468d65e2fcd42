pub mod First
pub mod ForDivision
pub mod Trees
