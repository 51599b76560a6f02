pub mod Desk
pub mod Names
