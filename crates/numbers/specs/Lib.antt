pub mod Names
pub mod Table
