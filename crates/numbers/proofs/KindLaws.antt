-- The number of what each kind of step decides is that of the checks of its kind in the table. Assumes nothing.
use Prim.Native.Nat.{ℕ, suc, ◌+◌, ◌-◌, ◌≤◌}
use mathlib.Core.Path.{◌≡◌, refl, ap, ◌∙◌}
use mathlib.Core.Bool.{Bool, true, false, cond, not, ◌&&◌, ◌||◌}
use mathlib.Core.List.{List, [], ◌∷◌}
use native.Mathlib.Omega.{arith}
use lib.Dec.{eqb, leb, ltb}
use lib.ListN.{length}
use borrow.Author.Tests.{ltb-true, ltb-false, lt-ltb, le-ltb, lt-leb, le-leb}
use Rattle.limits.specs.Limits.{most_slots, to_factory}
use Rattle.numbers.specs.Names.{Change, Decision, Deed, None, Option, Outcome, Refusal, Some, Step, Told}
use Rattle.numbers.specs.Names.{Body, Client, Heard, Held, Message, Plan, Power, Run, Sight, Slot, Stamp, Work}
use Rattle.plan.proofs.RuleLaws.{both}
use Rattle.cabinet.specs.Entries.{is_factory_stamp}
use Rattle.cabinet.specs.Cabinets.{has_version}
use Rattle.heard.specs.Heard.{count_of}
use Rattle.types.specs.Answers.{refusal_number}
use Rattle.types.specs.Parts.{sight_of, stored_in}
use Rattle.client.specs.Begin.{standing_of, begins_by, begins_of, sends_by, sends_of, leaves_by, leaves_of}
use Rattle.client.specs.Hear.{told_of, first_write, first_read, second, hear_by, hears_of}
use Rattle.admit.specs.Admit.{one_to, in_range, placed}
use Rattle.admit.proofs.AdmitLaws.{one_to_is}
use Rattle.server.specs.Deeds.{is_down, stops_when, rolls_of}
use Rattle.server.specs.Requests.{answers_by, answers_when, answers_of}
use Rattle.run.specs.Gather.{is_empty, first_from, others_from}
use Rattle.run.specs.Steps.{client_at, slot_at, cabinet_at, loses_by, delivers_in, decide_of}
use Rattle.numbers.specs.Table.{first_of, is_gone, is_idle, all_hold, kind_checks}

-- ---- the tests of the table, beside those of the step

-- no slot is free exactly where all hold a message
full_from : (i : ℕ) (l : List Slot) → leb (i + length l) (first_from i l) ≡ all_hold l
unfolding first_from all_hold
full_from i [] = le-leb (i + 0) i (omega arith)
full_from i (t ∷ l) = go (is_empty t.held) (full_from (suc i) l)
  where
    go : (e : Bool) → leb (suc i + length l) (first_from (suc i) l) ≡ all_hold l
        → leb (i + length (t ∷ l)) (cond e i (first_from (suc i) l)) ≡ (not e && all_hold l)
    go true h = lt-leb (i + length (t ∷ l)) i (omega arith)
    go false h = let z : i + length (t ∷ l) ≡ suc i + length l = omega arith in rw z h

fewer_is : (kept j : ℕ) → 1 ≤ j → ltb (kept - 1) j ≡ not (ltb j kept)
fewer_is kept j h = go (ltb j kept) refl
  where
    go : (t : Bool) → ltb j kept ≡ t → ltb (kept - 1) j ≡ not t
    go true e = le-ltb (kept - 1) j (omega (arith, ltb-true j kept e))
    go false e = lt-ltb (kept - 1) j (omega (arith, ltb-false j kept e))

enough_is : (r others : ℕ) → leb r others ≡ not (ltb others r)
enough_is r others = go (ltb others r) refl
  where
    go : (t : Bool) → ltb others r ≡ t → leb r others ≡ not t
    go true e = lt-leb r others (omega (arith, ltb-true others r e))
    go false e = le-leb r others (omega (arith, ltb-false others r e))

back_is : (stored : Bool) (present : Stamp) (kept j : ℕ) → 1 ≤ j
    → has_version stored present kept j ≡ (stored && not (cond (eqb j to_factory) (is_factory_stamp present) (ltb (kept - 1) j)))
unfolding has_version
back_is stored present kept j h = rw (fewer_is kept j h) (go (eqb j to_factory) stored (is_factory_stamp present) (ltb j kept))
  where
    go : (f s x t : Bool) → cond f (s && not x) (s && t) ≡ (s && not (cond f x (not t)))
    go true s x t = refl
    go false s x true = refl
    go false s x false = refl

-- ---- the number of each decision

abbrev pub num : Decision → ℕ
num (Decision.No why) = refusal_number why
num (Decision.Yes o x) = 0

begins_num : (w : Work) (i : ℕ) (c : Client) (v : Work)
    → num (begins_by (standing_of w) i c v) ≡ cond (is_gone w) 4 (cond (not (is_idle w)) 5 0)
begins_num Work.Idle i c v = refl
begins_num Work.Gone i c v = refl
begins_num (Work.FirstWrite r) i c v = refl
begins_num Work.FirstRead i c v = refl
begins_num Work.SecondWrite i c v = refl
begins_num Work.SecondRead i c v = refl

leaves_num : (w : Work) (i : ℕ) (c : Client) → num (leaves_by (standing_of w) i c) ≡ cond (is_gone w) 4 0
leaves_num Work.Idle i c = refl
leaves_num Work.Gone i c = refl
leaves_num (Work.FirstWrite r) i c = refl
leaves_num Work.FirstRead i c = refl
leaves_num Work.SecondWrite i c = refl
leaves_num Work.SecondRead i c = refl

either_num : (t : Bool) (x y : Decision) → num (cond t x y) ≡ cond t (num x) (num y)
either_num true x y = refl
either_num false x y = refl

sends_num : (w : Work) (i k : ℕ) (c : Client) (free : ℕ)
    → num (sends_by (standing_of w) i k c free) ≡ cond (is_gone w) 4 (cond (is_idle w) 6 (cond (leb most_slots free) 7 0))
sends_num Work.Idle i k c free = refl
sends_num Work.Gone i k c free = refl
sends_num (Work.FirstWrite r) i k c free = either_num (leb most_slots free) _ _
sends_num Work.FirstRead i k c free = either_num (leb most_slots free) _ _
sends_num Work.SecondWrite i k c free = either_num (leb most_slots free) _ _
sends_num Work.SecondRead i k c free = either_num (leb most_slots free) _ _

-- whatever is delivered is accepted
both_num : (t : Bool) (x y : Decision) → num x ≡ 0 → num y ≡ 0 → num (cond t x y) ≡ 0
both_num true x y a b = a
both_num false x y a b = b

hears_num : (d : Option Told) (plan : Plan) (i j : ℕ) (c : Client) (h : Heard) → num (hear_by d plan i j c h) ≡ 0
unfolding first_write first_read second
hears_num None plan i j c h = refl
hears_num (Some (Told.OfWrite r e)) plan i j c h = both_num (leb plan.read (count_of h)) _ _ refl refl
hears_num (Some (Told.OfRead e)) plan i j c h = both_num (leb plan.read (count_of h)) _ _ refl refl
hears_num (Some Told.Wrote) plan i j c h = both_num (leb plan.write (count_of h)) _ _ refl refl
hears_num (Some Told.ReadBack) plan i j c h = both_num (leb plan.write (count_of h)) _ _ refl refl

module _ (j : ℕ) (m : Message) (k : Sight) where
  answers_by_num : (b : Body) (stale : Bool) → num (answers_by b stale j m k) ≡ 0
  answers_by_num Body.AskStamp stale = both_num stale _ _ refl refl
  answers_by_num Body.AskEntry stale = both_num stale _ _ refl refl
  answers_by_num (Body.Offer e) stale = refl
  answers_by_num (Body.TellStamp s) stale = refl
  answers_by_num (Body.TellEntry e) stale = refl
  answers_by_num Body.Acknowledge stale = refl

  answers_num : (w : Power) → num (answers_when w j m k) ≡ 0
  answers_num Power.Down = refl
  answers_num Power.Up = answers_by_num m.body false
  answers_num Power.Stale = answers_by_num m.body true

delivers_num : (run : Run) (j : ℕ) (h : Held) → num (delivers_in run j h) ≡ cond (is_empty h) 8 0
unfolding answers_of hears_of
delivers_num run j Held.Empty = refl
delivers_num run j (Held.Request m) =
    answers_num j m (sight_of (cabinet_at run m.cabinet)) (cabinet_at run m.cabinet).power
delivers_num run j (Held.Reply m) =
    hears_num (told_of (client_at run m.client) m) run.plan m.client j (client_at run m.client) _

loses_num : (h : Held) (j : ℕ) → num (loses_by h j) ≡ cond (is_empty h) 8 0
loses_num Held.Empty j = refl
loses_num (Held.Request m) j = refl
loses_num (Held.Reply m) j = refl

stops_num : (w : Power) (p : ℕ) → num (stops_when w p) ≡ cond (is_down w) 9 0
stops_num Power.Down p = refl
stops_num Power.Up p = refl
stops_num Power.Stale p = refl

rolls_num : (plan : Plan) (p j : ℕ) (k : Sight) (others : ℕ) → 1 ≤ j
    → num (rolls_of plan p j k others)
    ≡ cond (not (stored_in plan p) || cond (eqb j to_factory) (is_factory_stamp k.present.stamp) (ltb (k.kept - 1) j)) 10
    (cond (not k.marked && leb plan.r others) 11 0)
unfolding rolls_of
rolls_num plan p j k others h =
    rw (back_is (stored_in plan p) k.present.stamp k.kept j h, enough_is plan.r others)
    (go (stored_in plan p) (cond (eqb j to_factory) (is_factory_stamp k.present.stamp) (ltb (k.kept - 1) j)) k.marked (ltb others plan.r))
  where
    go : (s t m u : Bool)
        → num
        (cond (s && not t) (cond (m || u) (Decision.Yes Outcome.RolledBack (Change.OfCabinet p (Deed.GoBack j))) (Decision.No Refusal.TooMany))
        (Decision.No Refusal.NoVersion))
        ≡ cond (not s || t) 10 (cond (not m && not u) 11 0)
    go true false true u = refl
    go true false false true = refl
    go true false false false = refl
    go true true m u = refl
    go false t m u = refl

-- ---- of a step in range

module _ (run : Run) (size : length run.slots ≡ most_slots) where
  all_full : leb most_slots (first_from 0 run.slots) ≡ all_hold run.slots
  all_full =
      ap (λ (n : ℕ). leb n (first_from 0 run.slots)) (let z : most_slots ≡ 0 + length run.slots = omega arith in z)
      ∙ full_from 0 run.slots

  pub placed_num : (s : Step) → in_range run.plan.n s ≡ true → num (decide_of run (placed s)) ≡ first_of (kind_checks run s)
  unfolding placed decide_of in_range begins_of sends_of leaves_of
  placed_num Step.Other e = absurd (let z : ◌≡◌ {A = ℕ} 0 1 = cc in omega arith)
  placed_num (Step.Write c r) e = begins_num (client_at run (c - 1)).work _ _ _
  placed_num (Step.Read c) e = begins_num (client_at run (c - 1)).work _ _ _
  placed_num (Step.Send c k) e = rw (← all_full) (sends_num (client_at run (c - 1)).work _ _ _ (first_from 0 run.slots))
  placed_num (Step.Deliver j) e = delivers_num run (j - 1) (slot_at run (j - 1)).held
  placed_num (Step.Lose j) e = loses_num (slot_at run (j - 1)).held (j - 1)
  placed_num (Step.Stop k) e = stops_num (cabinet_at run (k - 1)).power (k - 1)
  placed_num (Step.Leave c) e = leaves_num (client_at run (c - 1)).work _ _
  placed_num (Step.Restart k) e = refl
  placed_num (Step.Rollback k j) e =
      let back = one_to_is to_factory j (both (one_to run.plan.n k) (one_to to_factory j) e).1 in
      rolls_num run.plan (k - 1) j (sight_of (cabinet_at run (k - 1))) (others_from (k - 1) 0 run.cabinets) back.0
