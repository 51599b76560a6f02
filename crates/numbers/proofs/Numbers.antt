-- The number that a step is answered is the table's, and whatever is not 0 changes nothing; over a lent table too. Assumes nothing.
use Prim.Native.Nat.{◌+◌, ◌≤◌}
use mathlib.Core.Path.{◌≡◌, refl, sym, ap, ◌∙◌}
use mathlib.Core.Bool.{Bool, true, false, cond, not}
use mathlib.Core.List.{List}
use mathlib.Core.Logic.{◌≢◌, ◌↔◌}
use native.Mathlib.Omega.{arith}
use lib.Dec.{eqb, leb}
use lib.ListN.{length}
use Rattle.limits.specs.Limits.{most_slots, most_steps}
use Rattle.numbers.specs.Names.{Answer, Cabinet, Decision, Err, Lent, Ok, Refusal, Run, Served, Step}
use Rattle.types.specs.Answers.{refusal_number, answer_number}
use Rattle.admit.specs.Admit.{in_range, placed, admit_of}
use Rattle.run.specs.Steps.{decide_of, put_back, go_of, step_of}
use Rattle.run.specs.Undamaged.{undamaged}
use Rattle.run.proofs.FrameLaws.{step_is_go, step_damaged, step_refused, step_accepted}
use Rattle.run.proofs.MeetLaws.{asked_of}
use Rattle.desk.specs.Desk.{lent_number, with_cabinets, with_records, viewed, answered, wrong_length, lent_of, table_of}
use Rattle.desk.proofs.DeskLaws.{as_step, wrong_length_says, refused, refused_length}
use Rattle.numbers.specs.Table.{first_of, kind_checks, table_number, lent_table_number}
use Rattle.numbers.proofs.KindLaws.{num, placed_num}

refusal_range : (why : Refusal) → (1 ≤ refusal_number why) × (refusal_number why ≤ 11)
refusal_range Refusal.Damaged = (omega arith, omega arith)
refusal_range Refusal.Range = (omega arith, omega arith)
refusal_range Refusal.Limit = (omega arith, omega arith)
refusal_range Refusal.HasLeft = (omega arith, omega arith)
refusal_range Refusal.NotIdle = (omega arith, omega arith)
refusal_range Refusal.IsIdle = (omega arith, omega arith)
refusal_range Refusal.Full = (omega arith, omega arith)
refusal_range Refusal.NoMessage = (omega arith, omega arith)
refusal_range Refusal.IsDown = (omega arith, omega arith)
refusal_range Refusal.NoVersion = (omega arith, omega arith)
refusal_range Refusal.TooMany = (omega arith, omega arith)

below_fourteen : (a : Answer) → answer_number a ≢ 14
below_fourteen (Err why) e = omega (arith, refusal_range why)
below_fourteen (Ok o) e = omega arith

put_num : (run : Run) (x : Decision) → answer_number (put_back run x).answer ≡ num x
put_num run (Decision.No why) = refl
put_num run (Decision.Yes o x) = refl

-- ---- the number of a step

module _ (run : Run) (size : length run.slots ≡ most_slots) where
  -- the number that comes back is the table's
  pub numbers : (s : Step) → answer_number (step_of run s).answer ≡ table_number run s
  unfolding table_number go_of admit_of decide_of
  numbers s = go (undamaged run) refl
    where
      checked : (t u : Bool) → in_range run.plan.n s ≡ t
          → num (decide_of run (cond t (cond u (Err Refusal.Limit) (placed s)) (Err Refusal.Range)))
          ≡ cond (not t) 2 (cond u 3 (first_of (kind_checks run s)))
      checked true true e = refl
      checked true false e = placed_num run size s e
      checked false u e = refl

      go : (t : Bool) → undamaged run ≡ t
          → answer_number (step_of run s).answer
          ≡ cond (not t) 1 (cond (not (in_range run.plan.n s)) 2 (cond (leb most_steps run.steps) 3 (first_of (kind_checks run s))))
      go true e =
          rw (step_is_go run s e)
          (put_num run (decide_of run (asked_of run s)) ∙ checked (in_range run.plan.n s) (leb most_steps run.steps) refl)
      go false e = rw (step_damaged run s e) refl

module _ (run : Run) (s : Step) where
  -- "Every refusal changes nothing"
  pub unchanged : answer_number (step_of run s).answer ≢ 0 → (step_of run s).run ≡ run
  unchanged ne = go (step_of run s).answer refl
    where
      go : (a : Answer) → (step_of run s).answer ≡ a → (step_of run s).run ≡ run
      go (Err why) e = step_refused run s why e
      go (Ok o) e = absurd (ne (ap answer_number e))

  -- "0 is accepted": the step is counted
  pub counted : answer_number (step_of run s).answer ≡ 0 → (step_of run s).run.steps ≡ run.steps + 1
  counted z = go (step_of run s).answer refl
    where
      go : (a : Answer) → (step_of run s).answer ≡ a → (step_of run s).run.steps ≡ run.steps + 1
      go (Err why) e = absurd (omega (arith, refusal_range why, ap answer_number e))
      go (Ok o) e = step_accepted run s o e

-- ---- over a lent table

module _ (run : Run) (table : List Cabinet) (s : Step) where
  -- 14 before all others, and else the number of the run that has these records
  pub lent_numbers_are : length run.slots ≡ most_slots → lent_number (lent_of run table s).answer ≡ lent_table_number run table s
  unfolding lent_of lent_table_number answered viewed with_records with_cabinets table_number
  lent_numbers_are size = go (eqb (length table) run.plan.n)
    where
      go : (t : Bool) → lent_number (cond t (answered run (viewed run table s)) (wrong_length run)).answer
          ≡ cond (not t) 14 (table_number (with_records run table) s)
      go true = numbers (with_records run table) size s
      go false = refl

  -- 14 exactly where the table has not n records
  pub lent_fourteen : (lent_number (lent_of run table s).answer ≡ 14) ↔ (length table ≢ run.plan.n)
  lent_fourteen = (
    λ e same. below_fourteen (step_of (with_records run table) s).answer (sym (ap lent_number (as_step run table s same).0) ∙ e),
    λ ne. ap (λ (z : Served). lent_number z.answer) (wrong_length_says run table s ne).0,
  )

  pub lent_unchanged : lent_number (lent_of run table s).answer ≢ 0 → ((lent_of run table s).run ≡ run) × (table_of run table s ≡ table)
  lent_unchanged ne = go (lent_of run table s).answer refl
    where
      go : (a : Lent) → (lent_of run table s).answer ≡ a → ((lent_of run table s).run ≡ run) × (table_of run table s ≡ table)
      go (Err w) e = refused_length run table s e
      go (Ok (Err why)) e = refused run table s why e
      go (Ok (Ok o)) e = absurd (ne (ap lent_number e))
