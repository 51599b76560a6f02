-- What a rollback that was let in comes to: nowhere, not, or to the older version. Assumes nothing.
use Rattle.std.proofs.Common.{ℕ, ◌+◌, ◌≡◌, true, false, ◌||◌, List, get_or, set, ltb, arith}
use Rattle.run.specs.Names.{Asked, Cabinet, Client, Err, Ok, Outcome, Refusal, Result, Run, Slot, Step, Stepped}
use Rattle.cabinet.specs.Cabinets.{goes_back, rolled_back}
use Rattle.types.specs.Parts.{no_cabinet, stored_in}
use Rattle.server.specs.Deeds.{rolls_of, deed_of}
use Rattle.run.specs.Gather.{others_from}
use Rattle.run.specs.Steps.{cabinet_at, decide_of, done_at, changed, go_of, step_of}
use Rattle.run.specs.Undamaged.{undamaged}
use Rattle.run.proofs.MeetLaws.{asked_of}

abbrev pub refused : Run → Refusal → Stepped
refused run why = record { answer = Err why; run = run }

-- an accepted step, with what it stored
abbrev pub stored : Run → Outcome → List Cabinet → List Client → List Slot → Stepped
stored run o ks cs ts = record { answer = Ok o; run = record { plan = run.plan; steps = run.steps + 1; cabinets = ks; clients = cs; slots = ts } }

-- the place behind admission, which every arm passes
pub record Admitted (run : Run) (s : Step) : Type 0 where
  pub whole : undamaged run ≡ true
  pub asked : Result Asked Refusal
  pub by : asked ≡ asked_of run s

module _ {run : Run} {s : Step} (h : Admitted run s) {p j : ℕ} (e : h.asked ≡ Ok (Asked.RollsBack p j)) where
  pub rolls_nowhere : goes_back (stored_in run.plan p) j (get_or run.cabinets p no_cabinet) ≡ false
      → step_of run s ≡ refused run Refusal.NoVersion
  unfolding step_of go_of decide_of cabinet_at rolls_of
  rolls_nowhere g = grind arith

  module _ (g : goes_back (stored_in run.plan p) j (get_or run.cabinets p no_cabinet) ≡ true) {o : ℕ} (z : o ≡ others_from p 0 run.cabinets) where
    pub rolls_not : ((get_or run.cabinets p no_cabinet).marked || ltb o run.plan.r) ≡ false
        → step_of run s ≡ refused run Refusal.TooMany
    unfolding step_of go_of decide_of cabinet_at rolls_of
    rolls_not l = grind arith

    pub rolls_to : ((get_or run.cabinets p no_cabinet).marked || ltb o run.plan.r) ≡ true
        → {k : Cabinet} → k ≡ rolled_back (stored_in run.plan p) j (get_or run.cabinets p no_cabinet)
        → step_of run s ≡ stored run Outcome.RolledBack (set run.cabinets p k) run.clients run.slots
    unfolding step_of go_of decide_of cabinet_at rolls_of changed done_at deed_of
    rolls_to l q = grind arith
