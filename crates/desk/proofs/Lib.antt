pub mod Decides
pub mod DeskLaws
pub mod LendLaws
pub mod TableLaws
