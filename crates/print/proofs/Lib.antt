pub mod Decides
pub mod NumberLaws
pub mod PutLaws
pub mod ReadsBack
pub mod RowLaws
pub mod Worked
