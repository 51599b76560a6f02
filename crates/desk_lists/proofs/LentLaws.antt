-- A list over a lent table is the list of the run that has these records: step by step, and each way through the entrance; the first of the
-- steps at hand; a table that is part of an array. Assumes nothing.
use Prim.Native.Nat.{ℕ, min, ◌-◌, ◌≤◌, ◌<◌}
use mathlib.Core.Bool.{Bool, true, false, cond}
use mathlib.Core.List.{List, [], ◌∷◌, ◌++◌}
use mathlib.Core.Path.{◌≡◌, refl, sym, ap, ap₂, ◌∙◌}
use native.Mathlib.Omega.{arith}
use lib.Dec.{eqb, leb}
use lib.ListN.{length, take, drop, replicate}
use lib.Seq.{take_all, take-append_seam}
use Rattle.std.proofs.lemmas.List.{length-take}
use borrow.Author.Tests.{leb-true, leb-false}
use Rattle.limits.specs.Limits.{most_cabinets}
use Rattle.cabinet.specs.Cabinets.{fresh_cabinet}
use Rattle.run.specs.Lists.{run_all}
use Rattle.run.specs.Undamaged.{undamaged}
use Rattle.desk.specs.Desk.{lent_number, with_cabinets, with_records, nine_of, given_back, lent_of, table_of}
use Rattle.desk.proofs.DeskLaws.{as_step, own_kept, table_length}
use Rattle.desk.proofs.LendLaws.{too_long, view_is, back_few, back_same, lent_wrong, table_wrong, cap_take, cap_drop}
use Rattle.lists.specs.Whole.{fits, numbers_of, in_front, taken_of, untaken_of, list_of}
use Rattle.lists.proofs.ListLaws.{fits_made, fits_says, list_untaken, list_taken, runs_damaged, numbers_damaged}
use Rattle.desk_lists.specs.Names.{Cabinet, Listed, Local, Ok, Run, Step}
use Rattle.desk_lists.specs.Lent.{lent_run, lent_table, lent_numbers, lent_taken_of, lent_untaken_of, lent_list_of, lent_first_of, packed, local_list_of, local_first_of}
use Rattle.desk_lists.proofs.BehindLaws.{behind_step, same_step}

-- ---- a table of another length

module _ (run : Run) (ys : List Cabinet) (other : eqb (length ys) run.plan.n ≡ false) where
  wrong_run : (ss : List Step) → lent_run run ys ss ≡ run
  wrong_run [] = refl
  wrong_run (s ∷ ss) = rw (sym (lent_wrong run ys s other), sym (table_wrong run ys s other)) (wrong_run ss)

  wrong_table : (ss : List Step) → lent_table run ys ss ≡ ys
  wrong_table [] = refl
  wrong_table (s ∷ ss) = rw (sym (lent_wrong run ys s other), sym (table_wrong run ys s other)) (wrong_table ss)

  wrong_numbers : (ss : List Step) → lent_numbers run ys ss ≡ replicate (length ss) 14
  wrong_numbers [] = refl
  wrong_numbers (s ∷ ss) =
      rw (sym (lent_wrong run ys s other), sym (table_wrong run ys s other)) (ap (λ (l : List ℕ). 14 ∷ l) (wrong_numbers ss))

-- ---- a table of n records: the run behind it

behind_run : (run : Run) (ys : List Cabinet) (ss : List Step) → length ys ≡ run.plan.n
    → lent_run run ys ss ≡ with_cabinets (run_all (with_records run ys) ss) run.cabinets
unfolding run_all with_records with_cabinets
behind_run run ys [] same = refl
behind_run run ys (s ∷ ss) same =
    behind_run (lent_of run ys s).run (table_of run ys s) ss (same_step run ys s same)
    ∙ ap₂ (λ (r : Run) (own : List Cabinet). with_cabinets (run_all r ss) own) (behind_step run ys s same) (own_kept run ys s)

behind_records : (run : Run) (ys : List Cabinet) (ss : List Step) → length ys ≡ run.plan.n
    → lent_table run ys ss ≡ take (length ys) (run_all (with_records run ys) ss).cabinets
unfolding run_all with_records with_cabinets
behind_records run ys [] same = sym (take-append_seam ys (replicate (most_cabinets - length ys) fresh_cabinet))
behind_records run ys (s ∷ ss) same =
    behind_records (lent_of run ys s).run (table_of run ys s) ss (same_step run ys s same)
    ∙ ap₂ (λ (n : ℕ) (r : Run). take n (run_all r ss).cabinets) (table_length run ys s) (behind_step run ys s same)

behind_numbers : (run : Run) (ys : List Cabinet) (ss : List Step) → length ys ≡ run.plan.n
    → lent_numbers run ys ss ≡ numbers_of (with_records run ys) ss
unfolding numbers_of
behind_numbers run ys [] same = refl
behind_numbers run ys (s ∷ ss) same =
    ap₂ {C = List ℕ} (λ n l. n ∷ l) (ap lent_number (as_step run ys s same).0)
    (behind_numbers (lent_of run ys s).run (table_of run ys s) ss (same_step run ys s same)
    ∙ ap (λ (r : Run). numbers_of r ss) (behind_step run ys s same))

-- ---- what nine records in the run come to

abbrev view_of : Run → List Cabinet → Run
view_of run ys = with_cabinets run (nine_of ys)

-- the list of the run with nine records put in, against the list over the table
record Same (run : Run) (ys : List Cabinet) (ss : List Step) : Type 0 where
  its_run : with_cabinets (run_all (view_of run ys) ss) run.cabinets ≡ lent_run run ys ss
  its_records : given_back (run_all (view_of run ys) ss).cabinets ys ≡ lent_table run ys ss
  its_numbers : numbers_of (view_of run ys) ss ≡ lent_numbers run ys ss

module _ (run : Run) (ys : List Cabinet) (same : length ys ≡ run.plan.n) (ss : List Step) where
  -- a line of at most nine: the view is the run behind the table
  few_same : length ys ≤ most_cabinets → Same run ys ss
  few_same few = record {
    its_run = ap (λ (r : Run). with_cabinets (run_all r ss) run.cabinets) (view_is ys run few) ∙ sym (behind_run run ys ss same);
    its_records =
        back_few ys few (run_all (view_of run ys) ss).cabinets
        ∙ ap (λ (r : Run). take (length ys) (run_all r ss).cabinets) (view_is ys run few) ∙ sym (behind_records run ys ss same);
    its_numbers = ap (λ (r : Run). numbers_of r ss) (view_is ys run few) ∙ sym (behind_numbers run ys ss same);
  }

  -- a longer one is damaged, so that nothing changes
  many_same : most_cabinets < length ys → Same run ys ss
  unfolding with_records with_cabinets
  many_same many = record {
    its_run =
        ap (λ (r : Run). with_cabinets r run.cabinets) (runs_damaged (view_of run ys) broken ss)
        ∙ sym (behind_run run ys ss same ∙ ap (λ (r : Run). with_cabinets r run.cabinets) (runs_damaged (with_records run ys) behind ss));
    its_records =
        ap (λ (r : Run). given_back r.cabinets ys) (runs_damaged (view_of run ys) broken ss)
        ∙ back_same ys
        ∙ sym (behind_records run ys ss same ∙ ap (λ (r : Run). take (length ys) r.cabinets) (runs_damaged (with_records run ys) behind ss)
        ∙ take-append_seam ys (replicate (most_cabinets - length ys) fresh_cabinet));
    its_numbers =
        numbers_damaged (view_of run ys) broken ss
        ∙ sym (behind_numbers run ys ss same ∙ numbers_damaged (with_records run ys) behind ss);
  }
    where
      broken : undamaged (view_of run ys) ≡ false
      broken = too_long run (omega arith) (nine_of ys)

      behind : undamaged (with_records run ys) ≡ false
      behind = too_long run (omega arith) (ys ++ replicate (most_cabinets - length ys) fresh_cabinet)

  all_same : Same run ys ss
  all_same = go _ refl
    where
      go : (t : Bool) → leb (length ys) most_cabinets ≡ t → Same run ys ss
      go true e = few_same (leb-true (length ys) most_cabinets e)
      go false e = many_same (leb-false (length ys) most_cabinets e)

-- ---- the entrance

module _ (run : Run) (ys : List Cabinet) (steps : List Step) (table : List ℕ) where
  pub lent_taken : fits (length steps) (length table) ≡ true → lent_taken_of run ys steps table ≡ lent_list_of run ys steps table
  unfolding lent_list_of
  lent_taken e = rw e

  pub lent_untaken : fits (length steps) (length table) ≡ false → lent_untaken_of run ys table ≡ lent_list_of run ys steps table
  unfolding lent_list_of
  lent_untaken e = rw e

  -- a table of another length: 14 to each step of a list that fits
  pub list_wrong : eqb (length ys) run.plan.n ≡ false
      → cond (fits (length steps) (length table))
      (record { whole = Ok tt; run = run }, ys, in_front (replicate (length steps) 14) table) (lent_untaken_of run ys table)
      ≡ lent_list_of run ys steps table
  unfolding lent_list_of lent_taken_of
  list_wrong other = rw (wrong_run run ys other steps, wrong_table run ys other steps, wrong_numbers run ys other steps)

  -- what comes of a list of the run with nine records, when the table is given back
  abbrev pub puts : Listed × List ℕ → Listed × List Cabinet × List ℕ
  puts z = (record { whole = z.0.whole; run = with_cabinets z.0.run run.cabinets }, given_back z.0.run.cabinets ys, z.1)

  pub list_right : (z : Listed × List ℕ) → length ys ≡ run.plan.n
      → z ≡ list_of (with_cabinets run (nine_of ys)) steps table → puts z ≡ lent_list_of run ys steps table
  unfolding taken_of untaken_of lent_taken_of lent_untaken_of run_all
  list_right z same e = go _ refl
    where
      go : (t : Bool) → fits (length steps) (length table) ≡ t → puts z ≡ lent_list_of run ys steps table
      go true f =
          let s = all_same run ys same steps in
          ap puts (e ∙ sym (list_taken (view_of run ys) steps table f)) ∙ rw (s.its_run, s.its_records, s.its_numbers) (lent_taken f)
      go false f =
          let s = all_same run ys same [] in
          ap puts (e ∙ sym (list_untaken (view_of run ys) steps table f)) ∙ rw (s.its_run, s.its_records) (lent_untaken f)

-- ---- the first of the steps at hand

module _ (run : Run) (ys : List Cabinet) (steps : List Step) (count : ℕ) (table : List ℕ) where
  pub lent_first_untaken : fits count (length table) ≡ false → lent_untaken_of run ys table ≡ lent_first_of run ys steps count table
  unfolding lent_first_of
  lent_first_untaken e = rw e

  -- what stands behind them is not looked at
  pub lent_first_taken : fits count (length table) ≡ true → lent_list_of run ys (take count steps) table ≡ lent_first_of run ys steps count table
  unfolding lent_first_of
  lent_first_taken e =
      let f = fits_says count (length table) e in
      let few : length (take count steps) ≤ count = omega (arith, length-take count steps) in
      sym (lent_taken run ys (take count steps) table (fits_made (length (take count steps)) (length table) (omega arith) (omega arith))) ∙ rw e

  -- the list of them, where so many fit: a count that doesn't is refused, whatever the steps
  pub lent_first_cut : lent_first_of run ys steps count table
      ≡ cond (fits count (length table)) (lent_list_of run ys (take count steps) table) (lent_untaken_of run ys table)
  lent_first_cut = go _ refl
    where
      go : (t : Bool) → fits count (length table) ≡ t
          → lent_first_of run ys steps count table ≡ cond t (lent_list_of run ys (take count steps) table) (lent_untaken_of run ys table)
      go true e = sym (lent_first_taken e)
      go false e = sym (lent_first_untaken e)

-- all of them are the list
pub lent_first_whole : (run : Run) (ys : List Cabinet) (steps : List Step) (table : List ℕ)
    → lent_first_of run ys steps (length steps) table ≡ lent_list_of run ys steps table
unfolding lent_first_of lent_list_of
lent_first_whole run ys steps table = rw (take_all (length steps) steps (omega arith))

-- ---- out of an array

module _ (run : Run) (array : List Cabinet) (len : ℕ) (steps : List Step) where
  -- what a list over the first records leaves, with the others behind
  pub local_first_says : (count : ℕ) (table : List ℕ) (r : Listed) (after : List Cabinet) (said : List ℕ)
      → (r, after, said) ≡ lent_first_of run (take len array) steps count table
      → ◌≡◌ {A = Local × List ℕ} (record { listed = r; table = after ++ drop len array }, said) (local_first_of run array len steps count table)
  unfolding local_first_of
  local_first_says count table r after said p = ap (packed (drop len array)) p

  -- an array of nine lends what it has, where more is asked for
  pub local_first_capped : (count : ℕ) (table : List ℕ) → length array ≡ most_cabinets
      → local_first_of run array (min len most_cabinets) steps count table ≡ local_first_of run array len steps count table
  unfolding local_first_of
  local_first_capped count table nine = rw (cap_take len array nine, cap_drop len array nine)

  -- all of the steps are the list
  pub local_first_whole : (table : List ℕ) → local_first_of run array len steps (length steps) table ≡ local_list_of run array len steps table
  unfolding local_first_of local_list_of
  local_first_whole table = ap (packed (drop len array)) (lent_first_whole run (take len array) steps table)
