pub mod Admit
pub mod Names
