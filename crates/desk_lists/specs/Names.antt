-- The types that this crate speaks of, under one roof.
use Rattle.std.specs.Prelude.{List}
pub use Rattle.std.specs.Prelude.{Result, Ok, Err}
pub use Rattle.plan.specs.declared.Plan.{Plan}
pub use Rattle.cabinet.specs.declared.record.Cabinet.{Cabinet}
pub use Rattle.types.specs.Names.{Answer}
pub use Rattle.types.specs.declared.answer.Refusal.{Refusal}
pub use Rattle.types.specs.declared.message.Held.{Held}
pub use Rattle.types.specs.declared.step.Step.{Step}
pub use Rattle.types.specs.declared.step.Asked.{Asked}
pub use Rattle.run.specs.declared.Run.{Run}
pub use Rattle.run.specs.Names.{Stepped}
pub use Rattle.desk.specs.Names.{Lent, Served}
pub use Rattle.lists.specs.Names.{Whole, Listed}

-- S21.6: what comes back, beside the array that the records were lent out of
pub record Local : Type 0 where
  pub listed : Listed
  pub table : List Cabinet
