-- The events agree with the outcome words that the rehearsal shows: begun, chosen, written and read have their event, with the entry
-- that is shown, and no other word and no refusal has one. For every run and step. Assumes nothing.
use Prim.Native.Nat.{ℕ, ◌+◌, ◌-◌, ◌≤◌}
use mathlib.Core.Path.{◌≡◌, refl, sym, ap, subst, ◌∙◌}
use mathlib.Core.Bool.{Bool, true, false, cond, ◌||◌}
use native.Mathlib.Omega.{arith}
use lib.Dec.{leb, ltb}
use Rattle.limits.specs.Limits.{most_clients, most_slots}
use Rattle.promise.specs.Names.{Asked, Body, Change, Client, Decision, Deed, Ending, Entry, Err, Heard, Held, Message, None, Ok, Option, Outcome, Plan, Power, Refusal, Run, Sight, Some, Standing, Step, Told, Work}
use Rattle.plan.proofs.RuleLaws.{both}
use Rattle.cabinet.specs.Cabinets.{has_version}
use Rattle.heard.specs.Heard.{with_of, count_of}
use Rattle.types.specs.Parts.{sight_of, stored_in}
use Rattle.client.specs.Begin.{standing_of, begins_by, begins_of, sends_by, sends_of, leaves_by, leaves_of, request_slot}
use Rattle.client.specs.Hear.{told_of, counted, ended, first_write, first_read, second, hear_by, hears_of}
use Rattle.admit.specs.Admit.{one_to, in_range, placed}
use Rattle.server.specs.Deeds.{stops_when, rolls_of}
use Rattle.server.specs.Requests.{answers_by, answers_when, answers_of}
use Rattle.admit.proofs.AdmitLaws.{one_to_is, admitted_by}
use Rattle.run.specs.Steps.{client_at, slot_at, cabinet_at, loses_by, delivers_in, decide_of, put_back, go_of, step_of}
use Rattle.run.specs.Undamaged.{undamaged}
use Rattle.run.proofs.FrameLaws.{step_is_go, step_damaged}
use Rattle.promise.specs.Agrees.{Holds, Has, Agrees}
use Rattle.promise.specs.Events.{writes, reads, Event, beginning, ending, ending_in, answer_event, event}
use Rattle.promise.proofs.Moves.{ending_event}

module _ (run : Run) (s : Step) where
  abbrev Fits : Decision → Type 0
  Fits d = Agrees run s (put_back run d).run (put_back run d).answer (answer_event run s (put_back run d).run (put_back run d).answer)

  -- ---- clients

  begins_ok : (i : ℕ) (c : Client) (w : Work) → ((after : Run) → Has run s after Outcome.Begun (beginning s after)) → Fits (begins_of i c w)
  unfolding begins_of
  begins_ok i c w h = go (standing_of c.work)
    where
      go : (t : Standing) → Fits (begins_by t i c w)
      go Standing.Free = h _
      go Standing.Away = refl
      go Standing.Busy = refl

  sends_ok : (i k : ℕ) (c : Client) (j : ℕ) → Fits (sends_of i k c j)
  unfolding sends_of
  sends_ok i k c j = go (standing_of c.work)
    where
      room : (u : Bool) → Fits (cond u (Decision.No Refusal.Full) (Decision.Yes (Outcome.Sent (j + 1)) (Change.OfSlot j (request_slot i k c))))
      room true = refl
      room false = refl

      go : (t : Standing) → Fits (sends_by t i k c j)
      go Standing.Free = refl
      go Standing.Away = refl
      go Standing.Busy = room (leb most_slots j)

  leaves_ok : (i : ℕ) (c : Client) → Fits (leaves_of i c)
  unfolding leaves_of
  leaves_ok i c = go (standing_of c.work)
    where
      go : (t : Standing) → Fits (leaves_by t i c)
      go Standing.Free = refl
      go Standing.Away = refl
      go Standing.Busy = refl

  -- ---- a reply

  module _ (j : ℕ) (m : Message) (at_j : (slot_at run j).held ≡ Held.Reply m) (plan : Plan) (c : Client) (h : Heard) where
    in_slot : Holds run (j + 1) m
    in_slot = ap (λ (i : ℕ). (slot_at run i).held) (let z : j + 1 - 1 ≡ j = omega arith in z) ∙ at_j

    has_ending : (after : Run) (how : Ending) (e : Entry) → Has run s after (Outcome.Ended how (j + 1) e) (ending how m e)
    has_ending after Ending.Chosen e = (m, in_slot, refl)
    has_ending after Ending.Found e = refl
    has_ending after Ending.Written e = (m, in_slot, refl)
    has_ending after Ending.Read e = (m, in_slot, refl)

    ended_ok : (after : Run) (how : Ending) (e : Entry)
        → Has run s after (Outcome.Ended how (j + 1) e) (ending_in how (slot_at run (j + 1 - 1)).held e)
    ended_ok after how e =
        subst (λ (x : Event). Has run s after (Outcome.Ended how (j + 1) e) x) (sym (ending_event run j m at_j how e)) (has_ending after how e)

    -- the part ends, or the reply is counted
    part_ok : (t : Bool) (how : Ending) (e : Entry) (w : Work) (b d : Entry)
        → Fits (cond t (ended m.client j c.operation how e w b) (counted m.client j c h d))
    part_ok true how e w b d = ended_ok (put_back run (ended m.client j c.operation how e w b)).run how e
    part_ok false how e w b d = refl

    hear_ok : (t : Option Told) → Fits (hear_by t plan m.client j c h)
    unfolding first_write first_read second
    hear_ok None = refl
    hear_ok (Some (Told.OfWrite r e)) = part_ok (leb plan.read (count_of h)) Ending.Chosen _ _ _ _
    hear_ok (Some (Told.OfRead e)) = part_ok (leb plan.read (count_of h)) Ending.Found _ _ _ _
    hear_ok (Some Told.Wrote) = part_ok (leb plan.write (count_of h)) Ending.Written _ _ _ _
    hear_ok (Some Told.ReadBack) = part_ok (leb plan.write (count_of h)) Ending.Read _ _ _ _

  -- ---- a request

  answer_ok : (b : Body) (stale : Bool) (j : ℕ) (m : Message) (k : Sight) → Fits (answers_by b stale j m k)
  answer_ok Body.AskStamp true j m k = refl
  answer_ok Body.AskStamp false j m k = refl
  answer_ok Body.AskEntry true j m k = refl
  answer_ok Body.AskEntry false j m k = refl
  answer_ok (Body.Offer e) stale j m k = refl
  answer_ok (Body.TellStamp t) stale j m k = refl
  answer_ok (Body.TellEntry e) stale j m k = refl
  answer_ok Body.Acknowledge stale j m k = refl

  answers_ok : (u : Power) (j : ℕ) (m : Message) (k : Sight) → Fits (answers_when u j m k)
  answers_ok Power.Down j m k = refl
  answers_ok Power.Up j m k = answer_ok m.body false j m k
  answers_ok Power.Stale j m k = answer_ok m.body true j m k

  -- ---- slots and cabinets

  delivers_ok : (j : ℕ) → Fits (decide_of run (Ok (Asked.Delivers j)))
  unfolding decide_of answers_of hears_of
  delivers_ok j = go (slot_at run j).held refl
    where
      go : (h : Held) → (slot_at run j).held ≡ h
          → Fits (delivers_in run j h)
      go Held.Empty e = refl
      go (Held.Request m) e = answers_ok (cabinet_at run m.cabinet).power j m (sight_of (cabinet_at run m.cabinet))
      go (Held.Reply m) e = let c = client_at run m.client in hear_ok j m e run.plan c (with_of c.heard m.cabinet) (told_of c m)

  loses_ok : (j : ℕ) → Fits (decide_of run (Ok (Asked.Loses j)))
  unfolding decide_of
  loses_ok j = go (slot_at run j).held
    where
      go : (h : Held) → Fits (loses_by h j)
      go Held.Empty = refl
      go (Held.Request m) = refl
      go (Held.Reply m) = refl

  stops_ok : (q : ℕ) → Fits (decide_of run (Ok (Asked.Stops q)))
  unfolding decide_of
  stops_ok q = go (cabinet_at run q).power
    where
      go : (u : Power) → Fits (stops_when u q)
      go Power.Down = refl
      go Power.Up = refl
      go Power.Stale = refl

  rolls_ok : (plan : Plan) (q j : ℕ) (k : Sight) (n : ℕ) → Fits (rolls_of plan q j k n)
  unfolding rolls_of
  rolls_ok plan q j k n = go (has_version (stored_in plan q) k.present.stamp k.kept j) (k.marked || ltb n plan.r)
    where
      go : (t u : Bool)
          → Fits
          (cond t (cond u (Decision.Yes Outcome.RolledBack (Change.OfCabinet q (Deed.GoBack j))) (Decision.No Refusal.TooMany)) (Decision.No Refusal.NoVersion))
      go true true = refl
      go true false = refl
      go false u = refl

  restarts_ok : (q : ℕ) → Fits (decide_of run (Ok (Asked.Restarts q)))
  unfolding decide_of
  restarts_ok q = refl

  barred_ok : (why : Refusal) → Fits (decide_of run (Err why))
  unfolding decide_of
  barred_ok why = refl

module _ (run : Run) where
  -- a client's number, and its place
  numbered : (c : ℕ) → 1 ≤ c → c ≡ c - 1 + 1
  numbered c h = omega arith

  placed_ok : (s : Step) → in_range run.plan.n s ≡ true → Fits run s (decide_of run (placed s))
  unfolding in_range placed decide_of
  placed_ok Step.Other h = refl
  placed_ok (Step.Write c r) h =
      let low = (one_to_is most_clients c (both (one_to most_clients c) _ h).0).0 in
      begins_ok run (Step.Write c r) (c - 1) (client_at run (c - 1)) (Work.FirstWrite r)
      (λ after. (c - 1, writes r, ap (λ (d : ℕ). Step.Write d r) (numbered c low), refl))
  placed_ok (Step.Read c) h =
      begins_ok run (Step.Read c) (c - 1) (client_at run (c - 1)) Work.FirstRead
      (λ after. (c - 1, reads, ap Step.Read (numbered c (one_to_is most_clients c h).0), refl))
  placed_ok (Step.Send c k) h = sends_ok run (Step.Send c k) (c - 1) (k - 1) (client_at run (c - 1)) _
  placed_ok (Step.Deliver j) h = delivers_ok run (Step.Deliver j) (j - 1)
  placed_ok (Step.Lose j) h = loses_ok run (Step.Lose j) (j - 1)
  placed_ok (Step.Stop k) h = stops_ok run (Step.Stop k) (k - 1)
  placed_ok (Step.Leave c) h = leaves_ok run (Step.Leave c) (c - 1) (client_at run (c - 1))
  placed_ok (Step.Restart k) h = restarts_ok run (Step.Restart k) (k - 1)
  placed_ok (Step.Rollback k j) h = rolls_ok run (Step.Rollback k j) run.plan (k - 1) j (sight_of (cabinet_at run (k - 1))) _

  pub agrees : (s : Step) → Agrees run s (step_of run s).run (step_of run s).answer (event run s)
  unfolding event go_of
  agrees s = go (undamaged run) refl
    where
      go : (t : Bool) → undamaged run ≡ t
          → Agrees run s (step_of run s).run (step_of run s).answer (answer_event run s (step_of run s).run (step_of run s).answer)
      go true e =
          rw (step_is_go run s e)
          (admitted_by run.plan.n run.steps s (λ a. Fits run s (decide_of run a)) (barred_ok run s) (λ e l. placed_ok s e))
      go false e = rw (step_damaged run s e) refl
