-- A fresh run and the call that plans one: clauses S3.7 and S4 of docs/SCOPE.md.
use Rattle.std.specs.Prelude.{ℕ, replicate}
use Rattle.limits.specs.Limits.{most_cabinets, most_clients, most_slots}
use Rattle.run.specs.Names.{Err, Ok, Plan, Planned, Run, Started, Unplanned}
use Rattle.plan.specs.Rule.{plan_of, forgetful_plan}
use Rattle.cabinet.specs.Cabinets.{fresh_cabinet}
use Rattle.types.specs.Parts.{empty_slot, fresh_client}

-- S4.1, S4.4 to S4.7: every record, client and slot fresh, and no step accepted
unfoldable pub fresh_run : Plan → Run
fresh_run p =
    record { plan = p; steps = 0; cabinets = replicate most_cabinets fresh_cabinet; clients = replicate most_clients fresh_client; slots = replicate most_slots empty_slot }

-- S3.7: the fresh run of the plan, or of 2,0,0,0 beside a refusal
abbrev pub start_by : Planned → Started
start_by (Err Unplanned.OutOfRange) = record { planned = Err Unplanned.OutOfRange; run = fresh_run (forgetful_plan 2 0 0 0) }
start_by (Err Unplanned.TooSmall) = record { planned = Err Unplanned.TooSmall; run = fresh_run (forgetful_plan 2 0 0 0) }
start_by (Ok p) = record { planned = Ok p; run = fresh_run p }

-- S3.6, S3.7: a plan is answered
unfoldable pub start_of : ℕ → ℕ → ℕ → ℕ → Started
start_of n k r b = start_by (plan_of n k r b)
