-- The types that this crate speaks of, under one roof.
pub use Rattle.plan.specs.Names.{Planned}
pub use Rattle.types.specs.Names.{Answer, Ok, Err}
pub use Rattle.plan.specs.declared.Profile.{Profile}
pub use Rattle.plan.specs.declared.Plan.{Plan}
pub use Rattle.plan.specs.declared.Unplanned.{Unplanned}
pub use Rattle.cabinet.specs.declared.entry.Reading.{Reading}
pub use Rattle.cabinet.specs.declared.entry.Entry.{Entry}
pub use Rattle.types.specs.declared.answer.Refusal.{Refusal}
pub use Rattle.types.specs.declared.answer.Ending.{Ending}
pub use Rattle.types.specs.declared.answer.Outcome.{Outcome}
