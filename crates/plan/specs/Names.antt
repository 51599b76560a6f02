-- The types that this crate speaks of, under one roof.
use Rattle.std.specs.Prelude.{Result}
pub use Rattle.std.specs.Prelude.{Ok, Err}
pub use Rattle.plan.specs.declared.Profile.{Profile}
pub use Rattle.plan.specs.declared.Plan.{Plan}
pub use Rattle.plan.specs.declared.Unplanned.{Unplanned}

-- S3.6: a plan, or why there is none
abbrev pub Planned : Type 0
Planned = Result Plan Unplanned
