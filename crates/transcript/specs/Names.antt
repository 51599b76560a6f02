-- The types that this crate speaks of, under one roof.
pub use Rattle.std.specs.Prelude.{Option, Some, None, Ok, Err}
pub use Rattle.plan.specs.Names.{Planned}
pub use Rattle.types.specs.declared.answer.Refusal.{Refusal}
pub use Rattle.types.specs.Names.{Answer}
pub use Rattle.types.specs.declared.step.Step.{Step}
pub use Rattle.run.specs.declared.Run.{Run}
pub use Rattle.run.specs.declared.fresh.Started.{Started}
pub use Rattle.run.specs.Names.{Stepped}
pub use Rattle.text.specs.declared.row.Row.{Row}
pub use Rattle.turns.specs.declared.Went.{Went}
pub use Rattle.transcript.specs.declared.Phase.{Phase}
pub use Rattle.transcript.specs.declared.Rehearsal.{Rehearsal}
