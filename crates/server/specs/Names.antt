-- The types that this crate speaks of, under one roof.
pub use Rattle.plan.specs.declared.Plan.{Plan}
pub use Rattle.cabinet.specs.declared.record.Power.{Power}
pub use Rattle.cabinet.specs.declared.record.Cabinet.{Cabinet}
pub use Rattle.types.specs.declared.answer.Refusal.{Refusal}
pub use Rattle.types.specs.declared.answer.Outcome.{Outcome}
pub use Rattle.types.specs.declared.answer.Sight.{Sight}
pub use Rattle.types.specs.declared.message.Body.{Body}
pub use Rattle.types.specs.declared.message.Message.{Message}
pub use Rattle.types.specs.declared.message.Held.{Held}
pub use Rattle.types.specs.declared.message.Slot.{Slot}
pub use Rattle.types.specs.Decisions.{Deed, Change, Decision}
pub use Rattle.server.specs.declared.request.Back.{Back}
