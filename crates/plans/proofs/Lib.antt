pub mod WorthLaws
