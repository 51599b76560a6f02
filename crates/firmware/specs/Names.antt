-- The types that this crate speaks of, under one roof.
pub use Rattle.cabinet.specs.declared.entry.Reading.{Reading}
pub use Rattle.cabinet.specs.declared.entry.Entry.{Entry}
pub use Rattle.firmware.specs.declared.Verdict.{Verdict}
