-- The types that this crate speaks of, under one roof.
pub use Rattle.cabinet.specs.declared.entry.Reading.{Reading}
pub use Rattle.types.specs.declared.step.Step.{Step}
pub use Rattle.text.specs.declared.row.Row.{Row}
pub use Rattle.text.specs.declared.whole.Found.{Found}
pub use Rattle.text.specs.declared.word.Single.{Single}
pub use Rattle.text.specs.declared.word.Double.{Double}
pub use Rattle.text.specs.declared.word.Kind.{Kind}
pub use Rattle.text.specs.declared.word.Head.{Head}
