-- A step of the run with nine records in it, the table's first ones and fresh ones past them, is the step over the lent table. Assumes nothing.
use Prim.Native.Nat.{ℕ, min, ◌-◌, ◌≤◌, ◌<◌}
use mathlib.Core.Bool.{Bool, true, false}
use mathlib.Core.List.{List, [], ◌++◌, append-nil}
use mathlib.Core.Path.{◌≡◌, refl, sym, ap, ◌∙◌}
use native.Mathlib.Omega.{arith}
use lib.Dec.{eqb, leb}
use lib.ListN.{length, take, drop, replicate, drop_of_length-le}
use lib.Seq.{take_all, take-append_seam, length-take-le}
use Rattle.std.proofs.lemmas.List.{take-append-drop}
use borrow.Author.Tests.{eq-eqb, leb-true, leb-false}
use Rattle.limits.specs.Limits.{most_cabinets}
use Rattle.desk.specs.Names.{Cabinet, Err, Local, Refusal, Run, Served, Step, Stepped}
use Rattle.cabinet.specs.Cabinets.{fresh_cabinet}
use Rattle.run.specs.Steps.{step_of}
use Rattle.run.specs.Undamaged.{undamaged}
use Rattle.run.proofs.FitLaws.{cabinets_range}
use Rattle.run.proofs.FrameLaws.{step_damaged}
use Rattle.desk.specs.Desk.{with_cabinets, with_records, nine_of, given_back, viewed, answered, wrong_length, lent_of, table_of, local_of}

-- a line of more than nine cabinets is damaged, whatever its records
pub too_long : (run : Run) → most_cabinets < run.plan.n → (l : List Cabinet) → undamaged (with_cabinets run l) ≡ false
unfolding with_cabinets
too_long run h l = go _ refl
  where
    go : (t : Bool) → undamaged (with_cabinets run l) ≡ t → t ≡ false
    go true e = absurd (omega (arith, (cabinets_range (with_cabinets run l) e).1))
    go false e = refl

-- ---- a table of at most nine records, and a longer one

module _ (table : List Cabinet) where
  pub view_is : (run : Run) → length table ≤ most_cabinets → with_cabinets run (nine_of table) ≡ with_records run table
  unfolding with_records nine_of
  view_is run h =
      ap (λ (l : List Cabinet). with_cabinets run (l ++ replicate (most_cabinets - length table) fresh_cabinet))
      (take_all (min (length table) most_cabinets) table (omega arith))

  pub back_few : length table ≤ most_cabinets → (records : List Cabinet) → given_back records table ≡ take (length table) records
  unfolding given_back
  back_few h records =
      let all : min (length table) most_cabinets ≡ length table = omega arith in
      let none : drop (length table) table ≡ [] = drop_of_length-le table (omega arith) in
      rw (all, none) (append-nil (take (length table) records))

  -- records that did not change come back as they were
  pub back_same : given_back (nine_of table) table ≡ table
  unfolding given_back nine_of
  back_same =
      let m : ℕ = min (length table) most_cabinets in
      let front : take m (take m table ++ replicate (most_cabinets - length table) fresh_cabinet) ≡ take m table =
      let e : length (take m table) ≡ m = length-take-le m table (omega arith) in
      ap (λ (k : ℕ). take k (take m table ++ replicate (most_cabinets - length table) fresh_cabinet)) (sym e) ∙ take-append_seam (take m table) _ in
      ap (λ (l : List Cabinet). l ++ drop m table) front ∙ take-append-drop m table

module _ (run : Run) (table : List Cabinet) (s : Step) where
  broken : most_cabinets < run.plan.n → (l : List Cabinet)
      → step_of (with_cabinets run l) s ≡ record { answer = Err Refusal.Damaged; run = with_cabinets run l }
  broken h l = step_damaged (with_cabinets run l) s (too_long run h l)

  pub lent_wrong : eqb (length table) run.plan.n ≡ false → wrong_length run ≡ lent_of run table s
  unfolding lent_of
  lent_wrong e = rw e

  pub table_wrong : eqb (length table) run.plan.n ≡ false → table ≡ table_of run table s
  unfolding table_of
  table_wrong e = rw e

  module _ (same : length table ≡ run.plan.n) where
    pub lent_right : answered run (viewed run table s) ≡ lent_of run table s
    unfolding lent_of
    lent_right = rw (eq-eqb _ _ same)

    pub table_right : take (length table) (viewed run table s).run.cabinets ≡ table_of run table s
    unfolding table_of
    table_right = rw (eq-eqb _ _ same)

    -- z is the step of the run with nine records
    abbrev pub nine : Stepped
    nine = step_of (with_cabinets run (nine_of table)) s

    nine_lent : answered run nine ≡ answered run (viewed run table s)
    unfolding viewed answered with_records with_cabinets
    nine_lent = go _ refl
      where
        go : (t : Bool) → leb (length table) most_cabinets ≡ t → answered run nine ≡ answered run (viewed run table s)
        go true e = ap (λ (r : Run). answered run (step_of r s)) (view_is table run (leb-true _ _ e))
        go false e =
            let far : most_cabinets < run.plan.n = omega (arith, leb-false (length table) most_cabinets e) in
            ap (answered run) (broken far (nine_of table))
            ∙ sym (ap (answered run) (broken far (table ++ replicate (most_cabinets - length table) fresh_cabinet)))

    nine_back : given_back nine.run.cabinets table ≡ take (length table) (viewed run table s).run.cabinets
    unfolding viewed with_records with_cabinets
    nine_back = go _ refl
      where
        go : (t : Bool) → leb (length table) most_cabinets ≡ t
            → given_back nine.run.cabinets table ≡ take (length table) (viewed run table s).run.cabinets
        go true e =
            let few = leb-true (length table) most_cabinets e in
            back_few table few nine.run.cabinets
            ∙ ap (λ (r : Run). take (length table) (step_of r s).run.cabinets) (view_is table run few)
        go false e =
            let far : most_cabinets < run.plan.n = omega (arith, leb-false (length table) most_cabinets e) in
            let seam = take-append_seam table (replicate (most_cabinets - length table) fresh_cabinet) in
            ap (λ (w : Stepped). given_back w.run.cabinets table) (broken far (nine_of table)) ∙ back_same table
            ∙ sym (ap (λ (w : Stepped). take (length table) w.run.cabinets)
            (broken far (table ++ replicate (most_cabinets - length table) fresh_cabinet)) ∙ seam)

    pub lent_says : (z : Stepped) → z ≡ nine → answered run z ≡ lent_of run table s
    lent_says z e = ap (answered run) e ∙ nine_lent ∙ lent_right

    pub table_says : (z : Stepped) → z ≡ nine → given_back z.run.cabinets table ≡ table_of run table s
    table_says z e = ap (λ (w : Stepped). given_back w.run.cabinets table) e ∙ nine_back ∙ table_right

-- ---- the first records of an array

-- an array of nine lends what it has, where more is asked for
module _ (len : ℕ) (l : List Cabinet) (nine : length l ≡ most_cabinets) where
  pub cap_take : take (min len most_cabinets) l ≡ take len l
  cap_take = go _ refl
    where
      go : (t : Bool) → leb len most_cabinets ≡ t → take (min len most_cabinets) l ≡ take len l
      go true e = let h = leb-true len most_cabinets e in let f : min len most_cabinets ≡ len = omega arith in rw f
      go false e =
          let h = leb-false len most_cabinets e in
          take_all (min len most_cabinets) l (omega arith) ∙ sym (take_all len l (omega arith))

  pub cap_drop : drop (min len most_cabinets) l ≡ drop len l
  cap_drop = go _ refl
    where
      go : (t : Bool) → leb len most_cabinets ≡ t → drop (min len most_cabinets) l ≡ drop len l
      go true e = let h = leb-true len most_cabinets e in let f : min len most_cabinets ≡ len = omega arith in rw f
      go false e =
          let h = leb-false len most_cabinets e in
          let short : length l ≤ min len most_cabinets = omega arith in
          let shorter : length l ≤ len = omega arith in
          drop_of_length-le l short ∙ sym (drop_of_length-le l shorter)

  pub local_capped : (run : Run) (s : Step) → local_of run l (min len most_cabinets) s ≡ local_of run l len s
  unfolding local_of
  local_capped run s = rw (cap_take, cap_drop)

-- what a step over the first records leaves, with the others behind
pub local_says : (run : Run) (array : List Cabinet) (len : ℕ) (s : Step) (r : Served) (after : List Cabinet)
    → r ≡ lent_of run (take len array) s → after ≡ table_of run (take len array) s
    → ◌≡◌ {A = Local} (record { served = r; table = after ++ drop len array }) (local_of run array len s)
unfolding local_of
local_says run array len s r after p q = rw (p, q)
