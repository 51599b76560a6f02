pub mod Decides
pub mod ListLaws
