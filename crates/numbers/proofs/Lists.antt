-- The numbers of a list in one go are the table's: 16 or 0 for the whole, and the steps' own in order; over a lent table too.
-- Assumes nothing.
use Prim.Native.Nat.{ℕ}
use mathlib.Core.Bool.{Bool, true, false, cond, ◌&&◌, ◌||◌}
use mathlib.Core.List.{List, [], ◌∷◌}
use mathlib.Core.Path.{◌≡◌, refl, sym, ap, ap₂, ◌∙◌}
use lib.Dec.{eqb, leb, ltb}
use lib.ListN.{length, take}
use borrow.Author.Tests.{leb-true, leb-false, lt-ltb, le-ltb}
use Rattle.limits.specs.Limits.{most_slots}
use Rattle.numbers.specs.Names.{Cabinet, Listed, Run, Step}
use Rattle.run.specs.Steps.{step_of}
use Rattle.run.proofs.FrameLaws.{step_lengths}
use Rattle.desk.specs.Desk.{with_cabinets, with_records, viewed, answered, wrong_length, lent_of, table_of}
use Rattle.lists.specs.Whole.{most_listed, whole_number, fits, numbers_of, in_front, taken_of, untaken_of, list_of, first_list_of}
use Rattle.lists.proofs.ListLaws.{first_whole}
use Rattle.desk_lists.specs.Lent.{lent_numbers, lent_taken_of, lent_untaken_of, lent_list_of, lent_first_of}
use Rattle.desk_lists.proofs.LentLaws.{lent_first_whole}
use Rattle.numbers.specs.Table.{list_table_number, table_numbers, lent_table_numbers}
use Rattle.numbers.proofs.Numbers.{numbers, lent_numbers_are}

-- ---- the whole list

module _ (count places : ℕ) where
  over : leb count places ≡ false → ltb places count ≡ true
  over e = lt-ltb places count (leb-false count places e)

  within : leb count places ≡ true → ltb places count ≡ false
  within e = le-ltb places count (leb-true count places e)

room_number : (count places : ℕ) → ◌≡◌ {A = ℕ} (cond (fits count places) 0 16) (list_table_number count places)
unfolding list_table_number
room_number count places = go _ _ refl refl
  where
    go : (t u : Bool) → leb count most_listed ≡ t → leb count places ≡ u
        → ◌≡◌ {A = ℕ} (cond (t && u) 0 16) (cond (ltb most_listed count || ltb places count) 16 0)
    go true true e f = rw (within count most_listed e, within count places f)
    go true false e f = rw (within count most_listed e, over count places f)
    go false u e f = rw (over count most_listed e)

-- of the first `count` of the steps at hand, whatever the count
module _ (run : Run) (steps : List Step) (count : ℕ) (answers : List ℕ) where
  pub first_number : whole_number (first_list_of run steps count answers).0.whole ≡ list_table_number count (length answers)
  unfolding first_list_of taken_of untaken_of
  first_number = by (fits count (length answers)) ∙ room_number count (length answers)
    where
      by : (t : Bool) → whole_number (cond t (taken_of run (take count steps) answers) (untaken_of run answers)).0.whole ≡ cond t 0 16
      by true = refl
      by false = refl

  pub lent_first_number : (records : List Cabinet)
      → whole_number (lent_first_of run records steps count answers).0.whole ≡ list_table_number count (length answers)
  unfolding lent_first_of lent_taken_of lent_untaken_of
  lent_first_number records = by (fits count (length answers)) ∙ room_number count (length answers)
    where
      by : (t : Bool) → whole_number (cond t (lent_taken_of run records (take count steps) answers) (lent_untaken_of run records answers)).0.whole ≡ cond t 0 16
      by true = refl
      by false = refl

-- of all of them
module _ (run : Run) (steps : List Step) (answers : List ℕ) where
  pub list_number : whole_number (list_of run steps answers).0.whole ≡ list_table_number (length steps) (length answers)
  list_number =
      ap (λ (z : Listed × List ℕ). whole_number z.0.whole) (sym (first_whole run steps answers))
      ∙ first_number run steps (length steps) answers

  pub lent_list_number : (records : List Cabinet)
      → whole_number (lent_list_of run records steps answers).0.whole ≡ list_table_number (length steps) (length answers)
  lent_list_number records =
      ap (λ (z : Listed × List Cabinet × List ℕ). whole_number z.0.whole) (sym (lent_first_whole run records steps answers))
      ∙ lent_first_number run steps (length steps) answers records

-- ---- its steps

pub list_numbers : (run : Run) (ss : List Step) → length run.slots ≡ most_slots → numbers_of run ss ≡ table_numbers run ss
unfolding numbers_of
list_numbers run [] size = refl
list_numbers run (s ∷ ss) size =
    ap₂ {C = List ℕ} (λ n l. n ∷ l) (numbers run size s) (list_numbers (step_of run s).run ss ((step_lengths run s).slots ∙ size))

lent_slots : (run : Run) (table : List Cabinet) (s : Step) → length (lent_of run table s).run.slots ≡ length run.slots
unfolding lent_of answered viewed with_records with_cabinets
lent_slots run table s = go (eqb (length table) run.plan.n)
  where
    go : (t : Bool) → length (cond t (answered run (viewed run table s)) (wrong_length run)).run.slots ≡ length run.slots
    go true = (step_lengths (with_records run table) s).slots
    go false = refl

pub lent_list_numbers : (run : Run) (table : List Cabinet) (ss : List Step) → length run.slots ≡ most_slots
    → lent_numbers run table ss ≡ lent_table_numbers run table ss
lent_list_numbers run table [] size = refl
lent_list_numbers run table (s ∷ ss) size =
    ap₂ {C = List ℕ} (λ n l. n ∷ l) (lent_numbers_are run table s size)
    (lent_list_numbers (lent_of run table s).run (table_of run table s) ss (lent_slots run table s ∙ size))

-- ---- what stands in the table of answers where the first `count` are taken

module _ (run : Run) (steps : List Step) (count : ℕ) (answers : List ℕ) (size : length run.slots ≡ most_slots)
    (room : fits count (length answers) ≡ true) where
  pub first_numbers : (first_list_of run steps count answers).1 ≡ in_front (table_numbers run (take count steps)) answers
  unfolding first_list_of taken_of
  first_numbers = rw room (ap (λ (ns : List ℕ). in_front ns answers) (list_numbers run (take count steps) size))

  pub lent_first_numbers : (records : List Cabinet)
      → (lent_first_of run records steps count answers).2 ≡ in_front (lent_table_numbers run records (take count steps)) answers
  unfolding lent_first_of lent_taken_of
  lent_first_numbers records = rw room (ap (λ (ns : List ℕ). in_front ns answers) (lent_list_numbers run records (take count steps) size))
