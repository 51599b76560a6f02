-- The types that this crate speaks of, under one roof.
pub use Rattle.std.specs.Prelude.{Ok, Err}
pub use Rattle.plan.specs.declared.Plan.{Plan}
pub use Rattle.plan.specs.Names.{Planned}
pub use Rattle.plan.specs.declared.Unplanned.{Unplanned}
pub use Rattle.cabinet.specs.declared.record.Cabinet.{Cabinet}
pub use Rattle.types.specs.declared.answer.Outcome.{Outcome}
pub use Rattle.types.specs.Names.{Answer}
pub use Rattle.types.specs.declared.message.Held.{Held}
pub use Rattle.types.specs.declared.step.Step.{Step}
pub use Rattle.types.specs.declared.step.Asked.{Asked}
pub use Rattle.run.specs.declared.Run.{Run}
pub use Rattle.run.specs.Names.{Stepped}
pub use Rattle.desk.specs.Names.{Lent}
pub use Rattle.lists.specs.Names.{Listed}
