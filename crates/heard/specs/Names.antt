-- The types that this crate speaks of, under one roof.
pub use Rattle.heard.specs.declared.Heard.{Heard}
