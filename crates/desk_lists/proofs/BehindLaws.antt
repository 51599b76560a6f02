-- The run that stands behind a lent table: after a step over the table it is the run after the same step of its own. Assumes nothing.
use Prim.Native.Nat.{ℕ, ◌+◌, ◌-◌, ◌≤◌, ◌<◌}
use mathlib.Core.Path.{◌≡◌, refl, sym, ap, ap₂, ◌∙◌}
use mathlib.Core.Bool.{Bool, true, false}
use mathlib.Core.List.{List, ◌++◌}
use mathlib.Core.Logic.{◌≢◌}
use native.Mathlib.Omega.{arith}
use lib.Dec.{ltb}
use lib.ListN.{length, get_or, take, replicate, length-append, length-replicate, get_or-eq_default}
use lib.Seq.{get_or-take, length-take-le, ext_get_or}
use borrow.Author.Tests.{ltb-true, ltb-false}
use Rattle.limits.specs.Limits.{most_cabinets}
use Rattle.desk_lists.specs.Names.{Asked, Cabinet, Err, Held, Ok, Plan, Refusal, Result, Run, Step, Stepped}
use Rattle.cabinet.specs.Cabinets.{fresh_cabinet}
use Rattle.cabinet.proofs.ListLaws.{getD_filled}
use Rattle.admit.proofs.AdmitLaws.{Placed, admitted_placed}
use Rattle.guard.proofs.MessageLaws.{HeldIs, address_says}
use Rattle.run.specs.Steps.{slot_at, step_of}
use Rattle.run.specs.Undamaged.{undamaged}
use Rattle.run.proofs.FitLaws.{holds}
use Rattle.run.proofs.FrameLaws.{step_cabinet, step_damaged, step_plan, step_lengths}
use Rattle.run.proofs.MeetLaws.{asked_of, met_by, met_at}
use Rattle.desk.specs.Desk.{with_cabinets, with_records, lent_of, table_of}
use Rattle.desk.proofs.DeskLaws.{as_step, table_length}

-- ---- no step changes a record past n

module _ (run : Run) (i : ℕ) (past : run.plan.n ≤ i) (near : i < most_cabinets) where
  off_message : (j : ℕ) (h : Held) → HeldIs run.plan.n run.steps h → i ≢ (met_by h j).cabinet
  off_message j Held.Empty f e = omega arith
  off_message j (Held.Request m) f e = omega (arith, (address_says run.plan.n run.steps m f.0).2)
  off_message j (Held.Reply m) f e = omega arith

  off_asked : undamaged run ≡ true → (a : Result Asked Refusal) → Placed run.plan.n a → i ≢ (met_at run a).cabinet
  unfolding slot_at
  off_asked whole (Err why) f e = omega arith
  off_asked whole (Ok (Asked.Begins c w)) f e = omega arith
  off_asked whole (Ok (Asked.Leaves c)) f e = omega arith
  off_asked whole (Ok (Asked.Sends c p)) f e = omega arith
  off_asked whole (Ok (Asked.Delivers j)) f e = off_message j (slot_at run j).held (holds run whole j) e
  off_asked whole (Ok (Asked.Loses j)) f e = omega arith
  off_asked whole (Ok (Asked.Stops p)) f e = omega arith
  off_asked whole (Ok (Asked.Restarts p)) f e = omega arith
  off_asked whole (Ok (Asked.RollsBack p j)) f e = omega arith

  -- whatever stands there
  step_past : (s : Step) (d : Cabinet) → get_or (step_of run s).run.cabinets i d ≡ get_or run.cabinets i d
  step_past s d = go (undamaged run) refl
    where
      go : (t : Bool) → undamaged run ≡ t → get_or (step_of run s).run.cabinets i d ≡ get_or run.cabinets i d
      go true e = step_cabinet run s i d (off_asked e (asked_of run s) (admitted_placed run.plan.n run.steps s))
      go false e = ap (λ (z : Stepped). get_or z.run.cabinets i d) (step_damaged run s e)

-- ---- the lent records with fresh ones behind them

-- a list whose places from n on are fresh is its first n with fresh ones behind
filled_is : (n : ℕ) (l : List Cabinet) → length l ≡ n + (most_cabinets - n)
    → ((i : ℕ) → n ≤ i → i < length l → get_or l i fresh_cabinet ≡ fresh_cabinet)
    → take n l ++ replicate (most_cabinets - length (take n l)) fresh_cabinet ≡ l
filled_is n l len past =
    ext_get_or fresh_cabinet (take n l ++ replicate more fresh_cabinet) l (whole ∙ omega (arith, front)) at
  where
    more : ℕ
    more = most_cabinets - length (take n l)

    front : length (take n l) ≡ n
    front = length-take-le n l (omega arith)

    whole : length (take n l ++ replicate more fresh_cabinet) ≡ length (take n l) + more
    whole =
        length-append (take n l) (replicate more fresh_cabinet)
        ∙ ap (λ (k : ℕ). length (take n l) + k) (length-replicate more fresh_cabinet)

    at : (i : ℕ) → i < length (take n l ++ replicate more fresh_cabinet)
        → get_or (take n l ++ replicate more fresh_cabinet) i fresh_cabinet ≡ get_or l i fresh_cabinet
    at i h = getD_filled (take n l) more i fresh_cabinet ∙ go (ltb i n) refl
      where
        go : (t : Bool) → ltb i n ≡ t → get_or (take n l) i fresh_cabinet ≡ get_or l i fresh_cabinet
        go true e = get_or-take n l i fresh_cabinet (ltb-true i n e)
        go false e =
            let low = ltb-false i n e in
            get_or-eq_default (take n l) fresh_cabinet (omega (arith, front)) ∙ sym (past i low (omega (arith, whole, front)))

put_back : (run : Run) (own l : List Cabinet) → l ++ replicate (most_cabinets - length l) fresh_cabinet ≡ run.cabinets
    → with_records (with_cabinets run own) l ≡ run
unfolding with_records with_cabinets
put_back run own l e = rw e refl

-- ---- one step

module _ (run : Run) (table : List Cabinet) (s : Step) (same : length table ≡ run.plan.n) where
  abbrev behind : Run
  behind = with_records run table

  abbrev after : Run
  after = (step_of behind s).run

  behind_length : length behind.cabinets ≡ length table + (most_cabinets - length table)
  unfolding with_records with_cabinets
  behind_length =
      length-append table (replicate (most_cabinets - length table) fresh_cabinet)
      ∙ ap (λ (n : ℕ). length table + n) (length-replicate (most_cabinets - length table) fresh_cabinet)

  behind_past : (i : ℕ) → length table ≤ i → get_or behind.cabinets i fresh_cabinet ≡ fresh_cabinet
  unfolding with_records with_cabinets
  behind_past i h = getD_filled table (most_cabinets - length table) i fresh_cabinet ∙ get_or-eq_default table fresh_cabinet h

  behind_plan : behind.plan ≡ run.plan
  unfolding with_records with_cabinets
  behind_plan = refl

  after_past : (i : ℕ) → length table ≤ i → i < length after.cabinets → get_or after.cabinets i fresh_cabinet ≡ fresh_cabinet
  after_past i h low =
      let n : behind.plan.n ≡ length table = ap (λ (p : Plan). p.n) behind_plan ∙ sym same in
      let room = (step_lengths behind s).cabinets in
      step_past behind i (omega arith) (omega (arith, behind_length)) s fresh_cabinet ∙ behind_past i h

  -- the run behind the table goes on as its own steps take it
  pub behind_step : with_records (lent_of run table s).run (table_of run table s) ≡ (step_of behind s).run
  behind_step =
      ap₂ with_records (as_step run table s same).1 (as_step run table s same).2
      ∙ put_back after run.cabinets (take (length table) after.cabinets)
      (filled_is (length table) after.cabinets ((step_lengths behind s).cabinets ∙ behind_length) after_past)

  -- and the table still has n records
  pub same_step : length (table_of run table s) ≡ (lent_of run table s).run.plan.n
  unfolding with_cabinets
  same_step =
      table_length run table s
      ∙ same
      ∙ sym (ap (λ (r : Run). r.plan.n) (as_step run table s same).1 ∙ ap (λ (p : Plan). p.n) (step_plan behind s ∙ behind_plan))
