-- Where a step makes its change: at most at one client or one cabinet, and one slot, by the step or by its message. Assumes nothing.
use Rattle.std.proofs.Common.{ℕ, Bool, true, cond, ◌||◌, List, ◌≡◌, refl, ltb, get_or, arith}
use Rattle.std.proofs.lemmas.Bool.Decides.{nat_tests}
use Rattle.limits.specs.Limits.{most_cabinets, most_clients, most_slots}
use Rattle.run.specs.Names.{Asked, Body, Change, Client, Decision, Deed, Entry, Err, Heard, Held, Message, Ok, Option, Outcome, Plan, Power, Refusal, Result, Run, Sight, Slot, Standing, Step, Told, Work}
use Rattle.cabinet.specs.Cabinets.{goes_back}
use Rattle.types.specs.Parts.{empty_slot, stored_in}
use Rattle.client.specs.Begin.{begins_by, begins_of, sends_by, sends_of, leaves_by, leaves_of}
use Rattle.client.specs.Hear.{first_write, first_read, second, hear_by, hears_of}
use Rattle.admit.specs.Admit.{admit_of}
use Rattle.server.specs.Deeds.{stops_when, rolls_of}
use Rattle.server.specs.Requests.{answers_by, answers_when, answers_of}
use Rattle.run.specs.Gather.{first_from, others_from}
use Rattle.run.specs.Steps.{slot_at, cabinet_at, loses_by, delivers_in, decide_of}

-- the places of the client, the cabinet and the slot that a step may change; 8, 9 or 64, past the end, where it changes none
pub record Met : Type 0 where
  pub client : ℕ
  pub cabinet : ℕ
  pub slot : ℕ

abbrev met : ℕ → ℕ → ℕ → Met
met i p j = record { client = i; cabinet = p; slot = j }

-- a decision that changes at most these, and does to the cabinet only what may be done
pub data Meets (may : Deed → Type 0) (at : Met) : Decision → Type 0 where
  refuses : {why : Refusal} → Meets may at (Decision.No why)
  on_client : {o : Outcome} {c : Client} → Meets may at (Decision.Yes o (Change.OfClient at.client c))
  on_slot : {o : Outcome} {t : Slot} → Meets may at (Decision.Yes o (Change.OfSlot at.slot t))
  on_cabinet : {o : Outcome} {d : Deed} → may d → Meets may at (Decision.Yes o (Change.OfCabinet at.cabinet d))
  on_hearing : {o : Outcome} {c : Client} → Meets may at (Decision.Yes o (Change.Hearing at.client c at.slot))
  on_offering : {o : Outcome} {e : Entry} {t : Slot} → Meets may at (Decision.Yes o (Change.Offering at.cabinet e at.slot t))

module _ (may : Deed → Type 0) (at : Met) where
  begins_at : (g : Standing) (c : Client) (w : Work) → Meets may at (begins_by g at.client c w)
  begins_at g c w = grind (arith, refuses, on_client)

  leaves_at : (g : Standing) (c : Client) → Meets may at (leaves_by g at.client c)
  leaves_at g c = grind (arith, refuses, on_client)

  sends_at : (g : Standing) (i k : ℕ) (c : Client) → Meets may at (sends_by g i k c at.slot)
  sends_at g i k c = grind (arith, nat_tests, refuses, on_slot)

  hears_at : (d : Option Told) (plan : Plan) (c : Client) (h : Heard) → Meets may at (hear_by d plan at.client at.slot c h)
  unfolding first_write first_read second
  hears_at d plan c h = grind (arith, nat_tests, on_slot, on_hearing)

  loses_at : (h : Held) → Meets may at (loses_by h at.slot)
  loses_at h = grind (arith, refuses, on_slot)

  stops_at : (w : Power) → may Deed.GoDown → Meets may at (stops_when w at.cabinet)
  stops_at w f = grind (arith, refuses, on_cabinet)

  rolled_at : (s t : Bool) (j : ℕ) → (s ≡ true → t ≡ true → may (Deed.GoBack j))
      → Meets may at (cond s (cond t (Decision.Yes Outcome.RolledBack (Change.OfCabinet at.cabinet (Deed.GoBack j))) (Decision.No Refusal.TooMany)) (Decision.No Refusal.NoVersion))
  rolled_at s t j f = grind (arith, refuses, on_cabinet)

  -- a request that reaches the cabinet of this place
  module _ (m : Message) (k : Sight) (here : m.cabinet ≡ at.cabinet) where
    answers_by_at : (b : Body) (stale : Bool) → Meets may at (answers_by b stale at.slot m k)
    answers_by_at b stale = grind (arith, on_slot, on_offering)

    answers_at : (w : Power) → Meets may at (answers_when w at.slot m k)
    answers_at w = grind (arith, on_slot, answers_by_at)

-- ---- of a whole run

abbrev pub asked_of : Run → Step → Result Asked Refusal
asked_of run s = admit_of run.plan.n run.steps s

abbrev pub met_by : Held → ℕ → Met
met_by Held.Empty j = met most_clients most_cabinets most_slots
met_by (Held.Request m) j = met most_clients m.cabinet j
met_by (Held.Reply m) j = met m.client most_cabinets j

-- it goes by the slots alone
abbrev met_in : List Slot → Result Asked Refusal → Met
met_in l (Err why) = met most_clients most_cabinets most_slots
met_in l (Ok (Asked.Begins i w)) = met i most_cabinets most_slots
met_in l (Ok (Asked.Leaves i)) = met i most_cabinets most_slots
met_in l (Ok (Asked.Sends i p)) = met most_clients most_cabinets (first_from 0 l)
met_in l (Ok (Asked.Delivers j)) = met_by (get_or l j empty_slot).held j
met_in l (Ok (Asked.Loses j)) = met most_clients most_cabinets j
met_in l (Ok (Asked.Stops p)) = met most_clients p most_slots
met_in l (Ok (Asked.Restarts p)) = met most_clients p most_slots
met_in l (Ok (Asked.RollsBack p j)) = met most_clients p most_slots

abbrev pub met_at : Run → Result Asked Refusal → Met
met_at run a = met_in run.slots a

-- the deed of a stop, a restart and a rollback that is let through; no other step has one
abbrev pub Does : Run → Result Asked Refusal → Deed → Type 0
Does run (Err why) d = ⊥
Does run (Ok (Asked.Begins i w)) d = ⊥
Does run (Ok (Asked.Leaves i)) d = ⊥
Does run (Ok (Asked.Sends i p)) d = ⊥
Does run (Ok (Asked.Delivers j)) d = ⊥
Does run (Ok (Asked.Loses j)) d = ⊥
Does run (Ok (Asked.Stops p)) d = d ≡ Deed.GoDown
Does run (Ok (Asked.Restarts p)) d = d ≡ Deed.ComeUp
Does run (Ok (Asked.RollsBack p j)) d =
    (d ≡ Deed.GoBack j)
    × (goes_back (stored_in run.plan p) j (cabinet_at run p) ≡ true)
    × ((cabinet_at run p).marked || ltb (others_from p 0 run.cabinets) run.plan.r ≡ true)

module _ (run : Run) where
  delivers_at : (may : Deed → Type 0) (j : ℕ) (h : Held) → Meets may (met_by h j) (delivers_in run j h)
  unfolding answers_of hears_of
  delivers_at may j Held.Empty = refuses
  delivers_at may j (Held.Request m) = answers_at may (met most_clients m.cabinet j) m _ refl _
  delivers_at may j (Held.Reply m) = hears_at may (met m.client most_cabinets j) _ _ _ _

  rolls_at : (p j : ℕ) → Meets (Does run (Ok (Asked.RollsBack p j))) (met most_clients p most_slots) (decide_of run (Ok (Asked.RollsBack p j)))
  unfolding decide_of rolls_of
  rolls_at p j = rolled_at _ (met most_clients p most_slots) _ _ j (λ e f. (refl, e, f))

  pub run_at : (a : Result Asked Refusal) → Meets (Does run a) (met_at run a) (decide_of run a)
  unfolding decide_of slot_at begins_of sends_of leaves_of
  run_at (Err why) = refuses
  run_at (Ok (Asked.Begins i w)) = begins_at _ (met i most_cabinets most_slots) _ _ w
  run_at (Ok (Asked.Leaves i)) = leaves_at _ (met i most_cabinets most_slots) _ _
  run_at (Ok (Asked.Sends i p)) = sends_at _ (met most_clients most_cabinets (first_from 0 run.slots)) _ i p _
  run_at (Ok (Asked.Delivers j)) = delivers_at _ j _
  run_at (Ok (Asked.Loses j)) = loses_at _ (met most_clients most_cabinets j) _
  run_at (Ok (Asked.Stops p)) = stops_at _ (met most_clients p most_slots) _ refl
  run_at (Ok (Asked.Restarts p)) = on_cabinet refl
  run_at (Ok (Asked.RollsBack p j)) = rolls_at p j
