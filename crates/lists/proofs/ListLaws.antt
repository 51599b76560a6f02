-- Laws of a list of steps in one go: what stands in front of the table, one step more, a damaged run, a list cut in two. Assumes nothing.
use Prim.Native.Nat.{ℕ, suc, ◌+◌, ◌<◌, ◌≤◌}
use mathlib.Core.Bool.{Bool, true, false, cond}
use mathlib.Core.List.{List, [], ◌∷◌, ◌++◌}
use mathlib.Core.Path.{◌≡◌, refl, sym, ap, ap₂, ◌∙◌}
use native.Mathlib.Numerals.{add-one}
use native.Mathlib.Omega.{arith}
use lib.ListN.{length, get_or, set, take, drop, replicate, length-append, length-set, length-replicate}
use lib.Seq.{take-suc, take_all, length-take-le}
use Rattle.std.proofs.lemmas.List.{length-take}
use lib.Dec.{leb}
use borrow.Author.Tests.{le-leb, leb-true}
use Rattle.plan.proofs.RuleLaws.{both}
use Rattle.types.specs.Answers.{answer_number}
use Rattle.run.specs.Lists.{run_all}
use Rattle.run.specs.Steps.{step_of}
use Rattle.run.specs.Undamaged.{undamaged}
use Rattle.run.proofs.FrameLaws.{step_damaged}
use Rattle.run.proofs.ListLaws.{run_append, run_more}
use Rattle.run.proofs.UndamagedLaws.{step_undamaged}
use Rattle.lists.specs.Names.{Listed, Ok, Run, Step, Stepped}
use Rattle.lists.specs.Whole.{most_listed, fits, numbers_of, in_front, taken_of, untaken_of, list_of, first_list_of}

-- ---- what fits

module _ (count places : ℕ) where
  pub fits_made : count ≤ most_listed → count ≤ places → fits count places ≡ true
  fits_made h g = rw (le-leb count most_listed h, le-leb count places g)

  pub fits_says : fits count places ≡ true → (count ≤ most_listed) × (count ≤ places)
  fits_says e =
      let b = both (leb count most_listed) (leb count places) e in
      (leb-true count most_listed b.0, leb-true count places b.1)

-- ---- what stands in front

front_none : (table : List ℕ) → in_front [] table ≡ table
unfolding in_front
front_none table = refl

-- one place more
front_more : (ns table : List ℕ) (n : ℕ) → length ns < length table
    → set (in_front ns table) (length ns) n ≡ in_front (ns ++ (n ∷ [])) table
unfolding in_front
front_more [] [] n h = absurd (omega arith)
front_more [] (t ∷ table) n h = refl
front_more (m ∷ ns) [] n h = absurd (omega arith)
front_more (m ∷ ns) (t ∷ table) n h = ap (λ (l : List ℕ). m ∷ l) (front_more ns table n (omega arith))

-- one number for all
pub front_filled : (count n : ℕ) (table front : List ℕ) → count ≤ length table → front ≡ replicate (length (take count table)) n
    → front ++ drop count table ≡ in_front (replicate count n) table
unfolding in_front
front_filled count n table front h e = rw (e, length-take-le count table h, length-replicate count n)

-- ---- the numbers

numbers_length : (run : Run) (ss : List Step) → length (numbers_of run ss) ≡ length ss
unfolding numbers_of
numbers_length run [] = refl
numbers_length run (s ∷ ss) = ap suc (numbers_length (step_of run s).run ss)

numbers_append : (run : Run) (xs ys : List Step) → numbers_of run (xs ++ ys) ≡ numbers_of run xs ++ numbers_of (run_all run xs) ys
unfolding numbers_of run_all
numbers_append run [] ys = refl
numbers_append run (x ∷ xs) ys =
    ap (λ (l : List ℕ). answer_number (step_of run x).answer ∷ l) (numbers_append (step_of run x).run xs ys)

numbers_more : (run : Run) (xs : List Step) (x : Step)
    → numbers_of run (xs ++ (x ∷ [])) ≡ numbers_of run xs ++ (answer_number (step_of (run_all run xs) x).answer ∷ [])
unfolding numbers_of
numbers_more run xs x = numbers_append run xs (x ∷ [])

-- ---- a damaged run answers 1 to each

module _ (run : Run) (broken : undamaged run ≡ false) where
  pub runs_damaged : (ss : List Step) → run_all run ss ≡ run
  unfolding run_all
  runs_damaged [] = refl
  runs_damaged (s ∷ ss) = rw (step_damaged run s broken) (runs_damaged ss)

  pub numbers_damaged : (ss : List Step) → numbers_of run ss ≡ replicate (length ss) 1
  unfolding numbers_of
  numbers_damaged [] = refl
  numbers_damaged (s ∷ ss) = rw (step_damaged run s broken) (ap (λ (l : List ℕ). 1 ∷ l) (numbers_damaged ss))

  pub taken_damaged : (steps : List Step) (table : List ℕ)
      → (record { whole = Ok tt; run = run }, in_front (replicate (length steps) 1) table) ≡ taken_of run steps table
  unfolding taken_of
  taken_damaged steps table = rw (runs_damaged steps, numbers_damaged steps)

-- ---- the loop: i steps are taken, and their numbers stand in front

pub record Going (run : Run) (steps : List Step) (table : List ℕ) (i : ℕ) (held : Run) (now : List ℕ) : Type 0 where
  pub sound : undamaged held ≡ true
  pub goes : held ≡ run_all run (take i steps)
  pub wrote : now ≡ in_front (numbers_of run (take i steps)) table
  pub long : length now ≡ length table

module _ (run : Run) (steps : List Step) (table : List ℕ) where
  pub going_none : undamaged run ≡ true → Going run steps table 0 run table
  unfolding run_all numbers_of
  going_none whole = record { sound = whole; goes = refl; wrote = sym (front_none table); long = refl }

  module _ (places : length steps ≤ length table) (i : ℕ) (held : Run) (now : List ℕ) (g : Going run steps table i held now)
      (more : i < length steps) (d : Step) (x : Stepped) (took : x ≡ step_of held (get_or steps i d)) where
    next : take (i + 1) steps ≡ take i steps ++ (get_or steps i d ∷ [])
    next = rw (add-one i) (take-suc steps i d (omega arith))

    taken : length (numbers_of run (take i steps)) ≡ i
    taken = numbers_length run (take i steps) ∙ length-take-le i steps (omega arith)

    pub going_next : (n : ℕ) → n ≡ answer_number x.answer → Going run steps table (i + 1) x.run (set now i n)
    going_next n is = record {
      sound = rw took (step_undamaged held (get_or steps i d) g.sound);
      goes =
          ap (λ (y : Stepped). y.run) took ∙ ap (λ (r : Run). (step_of r (get_or steps i d)).run) g.goes
          ∙ sym (run_more run (take i steps) (get_or steps i d)) ∙ ap (run_all run) (sym next);
      wrote = wrote_next;
      long = length-set now i n ∙ g.long;
    }
      where
        is_number : n ≡ answer_number (step_of (run_all run (take i steps)) (get_or steps i d)).answer
        is_number =
            is ∙ ap (λ (y : Stepped). answer_number y.answer) took
            ∙ ap (λ (r : Run). answer_number (step_of r (get_or steps i d)).answer) g.goes

        wrote_next : set now i n ≡ in_front (numbers_of run (take (i + 1) steps)) table
        wrote_next =
            ap₂ (λ (l : List ℕ) (k : ℕ). set l k n) g.wrote (sym taken)
            ∙ front_more (numbers_of run (take i steps)) table n (omega (arith, taken))
            ∙ ap (λ (m : ℕ). in_front (numbers_of run (take i steps) ++ (m ∷ [])) table) is_number
            ∙ ap (λ (l : List ℕ). in_front l table) (sym (numbers_more run (take i steps) (get_or steps i d)))
            ∙ ap (λ (l : List Step). in_front (numbers_of run l) table) (sym next)

  pub going_all : (i : ℕ) (held : Run) (now : List ℕ) → Going run steps table i held now → length steps ≤ i
      → (record { whole = Ok tt; run = held }, now) ≡ taken_of run steps table
  unfolding taken_of
  going_all i held now g over =
      ap₂ (λ (r : Run) (l : List ℕ). (record { whole = Ok tt; run = r }, l)) g.goes g.wrote
      ∙ ap (λ (l : List Step). (record { whole = Ok tt; run = run_all run l }, in_front (numbers_of run l) table)) (take_all i steps over)

-- ---- the call

module _ (run : Run) (steps : List Step) (table : List ℕ) where
  pub list_untaken : fits (length steps) (length table) ≡ false → untaken_of run table ≡ list_of run steps table
  unfolding list_of
  list_untaken e = rw e

  pub list_taken : fits (length steps) (length table) ≡ true → taken_of run steps table ≡ list_of run steps table
  unfolding list_of
  list_taken e = rw e

-- ---- the first of the steps at hand

module _ (run : Run) (steps : List Step) (count : ℕ) (table : List ℕ) where
  pub first_untaken : fits count (length table) ≡ false → untaken_of run table ≡ first_list_of run steps count table
  unfolding first_list_of
  first_untaken e = rw e

  -- what stands behind them is not looked at
  pub first_taken : fits count (length table) ≡ true → list_of run (take count steps) table ≡ first_list_of run steps count table
  unfolding first_list_of
  first_taken e =
      let f = fits_says count (length table) e in
      let few : length (take count steps) ≤ count = omega (arith, length-take count steps) in
      sym (list_taken run (take count steps) table (fits_made (length (take count steps)) (length table) (omega arith) (omega arith))) ∙ rw e

  -- the list of them, where so many fit: a count that doesn't is refused, whatever the steps
  pub first_cut : first_list_of run steps count table ≡ cond (fits count (length table)) (list_of run (take count steps) table) (untaken_of run table)
  first_cut = go _ refl
    where
      go : (t : Bool) → fits count (length table) ≡ t
          → first_list_of run steps count table ≡ cond t (list_of run (take count steps) table) (untaken_of run table)
      go true e = sym (first_taken e)
      go false e = sym (first_untaken e)

-- all of them are the list
pub first_whole : (run : Run) (steps : List Step) (table : List ℕ) → first_list_of run steps (length steps) table ≡ list_of run steps table
unfolding first_list_of list_of
first_whole run steps table = rw (take_all (length steps) steps (omega arith))

-- ---- a list cut in two

pub front_cut : (ns ms t u : List ℕ) → length ns ≡ length t → in_front (ns ++ ms) (t ++ u) ≡ in_front ns t ++ in_front ms u
unfolding in_front
front_cut [] ms [] u e = refl
front_cut [] ms (x ∷ t) u e = absurd (omega arith)
front_cut (n ∷ ns) ms [] u e = absurd (omega arith)
front_cut (n ∷ ns) ms (x ∷ t) u e = ap (λ (l : List ℕ). n ∷ l) (front_cut ns ms t u (omega arith))

-- the answers of the second list stand behind those of the first
abbrev pub joined : Listed × List ℕ → Listed × List ℕ → Listed × List ℕ
joined first then = (then.0, first.1 ++ then.1)

taken_cut : (run : Run) (xs ys : List Step) (t u : List ℕ) → length xs ≡ length t
    → taken_of run (xs ++ ys) (t ++ u) ≡ joined (taken_of run xs t) (taken_of (run_all run xs) ys u)
unfolding taken_of
taken_cut run xs ys t u e =
    rw (run_append run xs ys, numbers_append run xs ys)
    (ap (λ (l : List ℕ). (record { whole = Ok tt; run = run_all (run_all run xs) ys }, l))
    (front_cut (numbers_of run xs) (numbers_of (run_all run xs) ys) t u (numbers_length run xs ∙ e)))

-- the second goes to the run that the first one left
pub list_cut : (run : Run) (xs ys : List Step) (t u : List ℕ) → length t ≡ length xs → length xs + length ys ≤ most_listed → length ys ≤ length u
    → list_of run (xs ++ ys) (t ++ u) ≡ joined (list_of run xs t) (list_of (list_of run xs t).0.run ys u)
unfolding taken_of
list_cut run xs ys t u same few places =
    let first = list_taken run xs t (fits_made (length xs) (length t) (omega arith) (omega arith)) in
    let whole =
    fits_made (length (xs ++ ys)) (length (t ++ u)) (omega (arith, length-append xs ys)) (omega (arith, length-append xs ys, length-append t u)) in
    sym (list_taken run (xs ++ ys) (t ++ u) whole) ∙ taken_cut run xs ys t u (sym same)
    ∙ ap₂ joined first
    (list_taken (run_all run xs) ys u (fits_made (length ys) (length u) (omega arith) places)
    ∙ ap (λ (z : Listed × List ℕ). list_of z.0.run ys u) first)
