pub mod AdmitLaws
pub mod Decides
