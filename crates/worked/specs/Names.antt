-- The types that this crate speaks of, under one roof.
pub use Rattle.plan.specs.Names.{Planned, Ok, Err}
pub use Rattle.plan.specs.declared.Unplanned.{Unplanned}
pub use Rattle.plan.specs.declared.Profile.{Profile}
pub use Rattle.cabinet.specs.declared.entry.Stamp.{Stamp}
pub use Rattle.cabinet.specs.declared.entry.Reading.{Reading}
pub use Rattle.cabinet.specs.declared.entry.Entry.{Entry}
pub use Rattle.cabinet.specs.declared.record.Cabinet.{Cabinet}
