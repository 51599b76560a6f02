-- The types that this crate speaks of, under one roof.
pub use Rattle.std.specs.Prelude.{Ok, Err, Some, None, Option}
pub use Rattle.plan.specs.declared.Plan.{Plan}
pub use Rattle.cabinet.specs.declared.entry.Stamp.{Stamp}
pub use Rattle.cabinet.specs.declared.record.Power.{Power}
pub use Rattle.cabinet.specs.declared.record.Cabinet.{Cabinet}
pub use Rattle.heard.specs.declared.Heard.{Heard}
pub use Rattle.types.specs.declared.answer.Refusal.{Refusal}
pub use Rattle.types.specs.declared.answer.Outcome.{Outcome}
pub use Rattle.types.specs.Names.{Answer}
pub use Rattle.types.specs.declared.answer.Sight.{Sight}
pub use Rattle.types.specs.declared.client.Work.{Work}
pub use Rattle.types.specs.declared.client.Client.{Client}
pub use Rattle.types.specs.declared.message.Body.{Body}
pub use Rattle.types.specs.declared.message.Message.{Message}
pub use Rattle.types.specs.declared.message.Held.{Held}
pub use Rattle.types.specs.declared.message.Slot.{Slot}
pub use Rattle.types.specs.declared.step.Step.{Step}
pub use Rattle.types.specs.declared.step.Asked.{Asked}
pub use Rattle.types.specs.Decisions.{Deed, Change, Decision}
pub use Rattle.client.specs.declared.hear.Told.{Told}
pub use Rattle.run.specs.declared.Run.{Run}
pub use Rattle.desk.specs.Names.{Lent, Served}
pub use Rattle.lists.specs.Names.{Listed}
