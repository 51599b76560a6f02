-- The types that this crate speaks of, under one roof.
pub use Rattle.std.specs.Prelude.{Result, Ok, Err, Option, Some, None}
pub use Rattle.plan.specs.declared.Plan.{Plan}
pub use Rattle.cabinet.specs.declared.entry.Reading.{Reading}
pub use Rattle.cabinet.specs.declared.entry.Entry.{Entry}
pub use Rattle.heard.specs.declared.Heard.{Heard}
pub use Rattle.types.specs.declared.answer.Refusal.{Refusal}
pub use Rattle.types.specs.declared.answer.Ending.{Ending}
pub use Rattle.types.specs.declared.answer.Outcome.{Outcome}
pub use Rattle.types.specs.declared.client.Work.{Work}
pub use Rattle.types.specs.declared.client.Client.{Client}
pub use Rattle.types.specs.declared.message.Body.{Body}
pub use Rattle.types.specs.declared.message.Message.{Message}
pub use Rattle.types.specs.declared.message.Held.{Held}
pub use Rattle.types.specs.declared.message.Slot.{Slot}
pub use Rattle.types.specs.Decisions.{Change, Decision}
pub use Rattle.client.specs.declared.begin.Standing.{Standing}
pub use Rattle.client.specs.declared.hear.Told.{Told}
pub use Rattle.client.specs.declared.hear.Hears.{Hears}
