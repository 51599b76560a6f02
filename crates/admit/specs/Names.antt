-- The types that this crate speaks of, under one roof.
pub use Rattle.std.specs.Prelude.{Result, Ok, Err}
pub use Rattle.types.specs.declared.answer.Refusal.{Refusal}
pub use Rattle.types.specs.declared.client.Work.{Work}
pub use Rattle.types.specs.declared.step.Step.{Step}
pub use Rattle.types.specs.declared.step.Asked.{Asked}
