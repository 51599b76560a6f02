-- The types that this crate speaks of, under one roof.
pub use Rattle.std.specs.Prelude.{Option, Some, None}
pub use Rattle.types.specs.declared.step.Step.{Step}
pub use Rattle.run.specs.declared.Run.{Run}
pub use Rattle.run.specs.Names.{Stepped}
pub use Rattle.text.specs.declared.whole.Found.{Found}
pub use Rattle.turns.specs.declared.Went.{Went}
