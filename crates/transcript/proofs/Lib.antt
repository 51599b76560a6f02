pub mod AnswerLaws
pub mod Decides
pub mod HeldLaws
pub mod MachineLaws
pub mod RehearsalLaws
pub mod RowLaws
pub mod TookLaws
pub mod WholeLaws
