pub mod Answers
pub mod Decisions
pub mod Names
pub mod Parts
pub mod Texts
