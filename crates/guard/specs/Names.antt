-- The types that this crate speaks of, under one roof.
pub use Rattle.plan.specs.declared.Plan.{Plan}
pub use Rattle.cabinet.specs.declared.entry.Stamp.{Stamp}
pub use Rattle.cabinet.specs.declared.entry.Reading.{Reading}
pub use Rattle.cabinet.specs.declared.entry.Entry.{Entry}
pub use Rattle.cabinet.specs.declared.record.Power.{Power}
pub use Rattle.cabinet.specs.declared.record.Cabinet.{Cabinet}
pub use Rattle.heard.specs.declared.Heard.{Heard}
pub use Rattle.types.specs.declared.client.Work.{Work}
pub use Rattle.types.specs.declared.client.Client.{Client}
pub use Rattle.types.specs.declared.message.Body.{Body}
pub use Rattle.types.specs.declared.message.Message.{Message}
pub use Rattle.types.specs.declared.message.Held.{Held}
pub use Rattle.types.specs.declared.message.Slot.{Slot}
