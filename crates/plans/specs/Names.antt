-- The types that this crate speaks of, under one roof.
pub use Rattle.plan.specs.Names.{Planned, Ok, Err}
pub use Rattle.plan.specs.declared.Plan.{Plan}
