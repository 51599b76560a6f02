pub mod Calls
pub mod EventLaws
pub mod Served
