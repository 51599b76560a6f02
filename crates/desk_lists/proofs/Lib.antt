pub mod BehindLaws
pub mod CutLaws
pub mod Decides
pub mod LentLaws
