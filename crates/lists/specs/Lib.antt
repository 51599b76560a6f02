pub mod Names
pub mod Whole
