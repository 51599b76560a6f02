-- The types that this crate speaks of, under one roof.
use Rattle.std.specs.Prelude.{List}
pub use Rattle.std.specs.Prelude.{Result, Ok, Err}
pub use Rattle.types.specs.Names.{Answer}
pub use Rattle.plan.specs.declared.Plan.{Plan}
pub use Rattle.cabinet.specs.declared.record.Cabinet.{Cabinet}
pub use Rattle.types.specs.declared.answer.Refusal.{Refusal}
pub use Rattle.types.specs.declared.step.Step.{Step}
pub use Rattle.run.specs.declared.Run.{Run}
pub use Rattle.run.specs.Names.{Stepped}
pub use Rattle.desk.specs.declared.WrongLength.{WrongLength}

-- S12.14: the answer of the step, or a table of another length
abbrev pub Lent : Type 0
Lent = Result Answer WrongLength

-- S14.4: what is answered, and the run afterwards
pub record Served : Type 0 where
  pub answer : Lent
  pub run : Run

-- S14.1: the same beside the array that the records were lent out of
pub record Local : Type 0 where
  pub served : Served
  pub table : List Cabinet
