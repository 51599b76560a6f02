pub mod Decides
pub mod FoundLaws
pub mod LineLaws
pub mod TakingLaws
