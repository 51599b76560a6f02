-- The types that this crate speaks of, under one roof.
pub use Rattle.std.specs.Prelude.{Result, Ok, Err}
pub use Rattle.types.specs.Names.{Answer}
pub use Rattle.types.specs.declared.answer.Refusal.{Refusal}
pub use Rattle.types.specs.declared.step.Step.{Step}
pub use Rattle.run.specs.declared.Run.{Run}
pub use Rattle.run.specs.Names.{Stepped}
pub use Rattle.lists.specs.declared.NoRoom.{NoRoom}

-- S12.16: taken, or no room
abbrev pub Whole : Type 0
Whole = Result (Unit {0}) NoRoom

-- S21.3: what comes back for the whole list, and the run afterwards
pub record Listed : Type 0 where
  pub whole : Whole
  pub run : Run
