pub mod KindLaws
pub mod Lists
pub mod Numbers
