pub mod Names
pub mod Worth
