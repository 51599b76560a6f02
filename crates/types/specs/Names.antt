-- The types that this crate speaks of, under one roof.
use Rattle.std.specs.Prelude.{Result}
pub use Rattle.std.specs.Prelude.{Ok, Err}
pub use Rattle.plan.specs.declared.Profile.{Profile}
pub use Rattle.plan.specs.declared.Plan.{Plan}
pub use Rattle.cabinet.specs.declared.entry.Entry.{Entry}
pub use Rattle.cabinet.specs.declared.record.Power.{Power}
pub use Rattle.cabinet.specs.declared.record.Cabinet.{Cabinet}
pub use Rattle.types.specs.declared.answer.Refusal.{Refusal}
pub use Rattle.types.specs.declared.answer.Outcome.{Outcome}
pub use Rattle.types.specs.declared.answer.Sight.{Sight}
pub use Rattle.types.specs.declared.client.Work.{Work}
pub use Rattle.types.specs.declared.client.Client.{Client}
pub use Rattle.types.specs.declared.message.Held.{Held}
pub use Rattle.types.specs.declared.message.Slot.{Slot}

-- S5.2: accepted with an outcome, or refused
abbrev pub Answer : Type 0
Answer = Result Outcome Refusal
