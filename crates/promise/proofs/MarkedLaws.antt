-- At most r cabinets are ever marked as rolled back: "Only r limits the steps that are accepted". Assumes nothing.
use Prim.Native.Nat.{ℕ, zero, suc, ◌+◌, ◌≤◌, ◌<◌}
use mathlib.Core.Bool.{Bool, true, false, cond, ◌||◌}
use mathlib.Core.List.{List, [], ◌∷◌}
use mathlib.Core.Path.{◌≡◌, refl, sym, ap, ◌∙◌}
use native.Mathlib.Omega.{arith}
use native.Mathlib.Nat.{zero-add}
use lib.Dec.{ltb}
use lib.ListN.{get_or, set}
use borrow.Author.Tests.{ltb-true, ne_eqb}
use Rattle.promise.specs.Names.{Refusal, Asked, Cabinet, Decision, Deed, Entry, Err, Ok, Plan, Planned, Result, Run, Step, Unplanned}
use Rattle.plan.specs.Rule.{plan_of}
use Rattle.plan.proofs.RuleLaws.{numbers}
use Rattle.cabinet.specs.Cabinets.{present_of, taken, offered, restarted, rolled_back}
use Rattle.cabinet.proofs.CabinetLaws.{rolled_by}
use Rattle.cabinet.specs.Entries.{takes}
use Rattle.types.specs.Parts.{no_cabinet}
use Rattle.server.specs.Deeds.{deed_of}
use Rattle.run.specs.Gather.{others_from}
use Rattle.run.specs.Lists.{run_all}
use Rattle.run.specs.Start.{fresh_run, start_by, start_of}
use Rattle.run.specs.Steps.{cabinet_at, done_at, changed, put_back, go_of, step_of}
use Rattle.run.proofs.FrameLaws.{step_by, step_plan}
use Rattle.run.proofs.MeetLaws.{Meets, refuses, on_client, on_slot, on_cabinet, on_hearing, on_offering, asked_of, met_at, Does, run_at}
use Rattle.run.proofs.UndamagedLaws.{all_by}

unfoldable pub marked_in : List Cabinet → ℕ
marked_in [] = 0
marked_in (k ∷ l) = cond k.marked 1 0 + marked_in l

-- ---- counting

-- a record that is marked as the one it stands for was
marked_put : (l : List Cabinet) (p : ℕ) (x d : Cabinet) → x.marked ≡ (get_or l p d).marked → marked_in (set l p x) ≡ marked_in l
unfolding marked_in
marked_put [] p x d h = refl
marked_put (y ∷ l) zero x d h = rw h
marked_put (y ∷ l) (suc p) x d h = rw (marked_put l p x d h)

-- behind the place that is left out, all are counted
others_past : (p i : ℕ) (l : List Cabinet) → p < i → others_from p i l ≡ marked_in l
unfolding others_from marked_in
others_past p i [] h = refl
others_past p i (k ∷ l) h = rw (ne_eqb i p (omega arith), others_past p (suc i) l (omega arith))

one_at_most : (t : Bool) → cond t 1 0 ≤ 1
one_at_most true = omega arith
one_at_most false = omega arith

-- with any record at a place at most one more than the others are marked
marked_most_one : (i p : ℕ) (l : List Cabinet) (x : Cabinet) → marked_in (set l p x) ≤ others_from (i + p) i l + 1
unfolding others_from marked_in
marked_most_one i p [] x = omega arith
marked_most_one i zero (y ∷ l) x = omega (arith, one_at_most x.marked, others_past (i + 0) (suc i) l (omega arith))
marked_most_one i (suc p) (y ∷ l) x =
    let here : i + suc p ≡ suc i + p = omega arith in
    rw (ne_eqb i (i + suc p) (omega arith))
    (omega (arith, marked_most_one (suc i) p l x, ap (λ (n : ℕ). others_from n (suc i) l) here))

-- ---- what is done to a cabinet

offered_marked : (stored : Bool) (e : Entry) (k : Cabinet) → (offered stored e k).marked ≡ k.marked
unfolding offered taken
offered_marked stored e k = go (takes (present_of k) e) stored
  where
    go : (t s : Bool) → (cond t (taken s e k) k).marked ≡ k.marked
    go true true = refl
    go true false = refl
    go false s = refl

restarted_marked : (stored forgetful : Bool) (k : Cabinet) → (restarted stored forgetful k).marked ≡ k.marked
unfolding restarted
restarted_marked true forgetful k = refl
restarted_marked false forgetful k = refl

-- a marked one stays marked
rolled_marked : (stored : Bool) (j : ℕ) (k : Cabinet) → k.marked ≡ true → (rolled_back stored j k).marked ≡ k.marked
rolled_marked stored j k h = rolled_by (λ (y : Cabinet). y.marked ≡ k.marked) stored j k refl (λ s. sym h) (λ s low. sym h)

-- ---- a step

module _ (run : Run) (few : marked_in run.cabinets ≤ run.plan.r) where
  -- a deed that leaves the mark
  same_marked : (p : ℕ) (d : Deed) → (deed_of run.plan p d (cabinet_at run p)).marked ≡ (cabinet_at run p).marked
      → marked_in (done_at run.plan run.cabinets p d) ≤ run.plan.r
  unfolding done_at cabinet_at
  same_marked p d h = rw (marked_put run.cabinets p (deed_of run.plan p d (get_or run.cabinets p no_cabinet)) no_cabinet h) few

  weighed_marked : (p : ℕ) (e : Entry) → marked_in (done_at run.plan run.cabinets p (Deed.Weigh e)) ≤ run.plan.r
  unfolding deed_of
  weighed_marked p e = same_marked p (Deed.Weigh e) (offered_marked _ e (cabinet_at run p))

  -- a rollback marks a cabinet only while fewer than r others are marked
  back_marked : (p j : ℕ) → (cabinet_at run p).marked || ltb (others_from p 0 run.cabinets) run.plan.r ≡ true
      → marked_in (done_at run.plan run.cabinets p (Deed.GoBack j)) ≤ run.plan.r
  unfolding deed_of done_at
  back_marked p j h = go _ refl h
    where
      go : (t : Bool) → (cabinet_at run p).marked ≡ t → t || ltb (others_from p 0 run.cabinets) run.plan.r ≡ true
          → marked_in (done_at run.plan run.cabinets p (Deed.GoBack j)) ≤ run.plan.r
      go true e h = same_marked p (Deed.GoBack j) (rolled_marked _ j (cabinet_at run p) e)
      go false e h =
          let room : others_from p 0 run.cabinets < run.plan.r = ltb-true _ _ h in
          let most =
          rw zero-add at (marked_most_one 0 p run.cabinets (deed_of run.plan p (Deed.GoBack j) (get_or run.cabinets p no_cabinet)))
          in
          omega arith

  deed_marked : (a : Result Asked Refusal) (d : Deed) → Does run a d
      → marked_in (done_at run.plan run.cabinets (met_at run a).cabinet d) ≤ run.plan.r
  unfolding deed_of
  deed_marked (Err why) d f = absurd f
  deed_marked (Ok (Asked.Begins i w)) d f = absurd f
  deed_marked (Ok (Asked.Sends i p)) d f = absurd f
  deed_marked (Ok (Asked.Delivers j)) d f = absurd f
  deed_marked (Ok (Asked.Loses j)) d f = absurd f
  deed_marked (Ok (Asked.Stops p)) d f = rw f (same_marked p Deed.GoDown refl)
  deed_marked (Ok (Asked.Leaves i)) d f = absurd f
  deed_marked (Ok (Asked.Restarts p)) d f = rw f (same_marked p Deed.ComeUp (restarted_marked _ _ (cabinet_at run p)))
  deed_marked (Ok (Asked.RollsBack p j)) d f = rw f.0 (back_marked p j f.2)

  put_marked : (a : Result Asked Refusal) (x : Decision) → Meets (Does run a) (met_at run a) x
      → marked_in (put_back run x).run.cabinets ≤ (put_back run x).run.plan.r
  unfolding changed
  put_marked a x refuses = few
  put_marked a x on_client = few
  put_marked a x on_slot = few
  put_marked a x (on_cabinet {d = d} f) = deed_marked a d f
  put_marked a x on_hearing = few
  put_marked a x (on_offering {e = e}) = weighed_marked (met_at run a).cabinet e

go_marked : (run : Run) (s : Step) → marked_in run.cabinets ≤ run.plan.r
    → marked_in (go_of run s).run.cabinets ≤ (go_of run s).run.plan.r
unfolding go_of
go_marked run s few = put_marked run few (asked_of run s) _ (run_at run (asked_of run s))

pub step_marked : (run : Run) (s : Step) → marked_in run.cabinets ≤ run.plan.r
    → marked_in (step_of run s).run.cabinets ≤ (step_of run s).run.plan.r
step_marked run s few = step_by run s (λ (x : Run). marked_in x.cabinets ≤ x.plan.r) few (go_marked run s few)

-- ---- many steps

-- the plan stays the one that was started
runs_plan : (run : Run) (ss : List Step) → (run_all run ss).plan ≡ run.plan
runs_plan run ss = all_by (λ (x : Run). x.plan ≡ run.plan) (λ x s h. step_plan x s ∙ h) run ss refl

start_marked : (n k r b : ℕ) → (marked_in (start_of n k r b).run.cabinets ≡ 0) × ((start_of n k r b).run.plan.r ≤ r)
unfolding start_of fresh_run marked_in
start_marked n k r b = go _ refl
  where
    go : (x : Planned) → plan_of n k r b ≡ x → (marked_in (start_by x).run.cabinets ≡ 0) × ((start_by x).run.plan.r ≤ r)
    go (Err Unplanned.OutOfRange) e = (refl, omega arith)
    go (Err Unplanned.TooSmall) e = (refl, omega arith)
    go (Ok p) e = let m = numbers n k r b p e in (refl, omega arith)

pub at_most_r : (n k r b : ℕ) (ss : List Step) → marked_in (run_all (start_of n k r b).run ss).cabinets ≤ r
at_most_r n k r b ss =
    let start = (start_of n k r b).run in
    let f = start_marked n k r b in
    let few = all_by (λ (x : Run). marked_in x.cabinets ≤ x.plan.r) step_marked start ss (omega arith) in
    omega (arith, ap Plan.r (runs_plan start ss))
