pub mod Deeds
pub mod Names
pub mod Requests
