-- What every state has that is fed from the start: where steps are due the run is undamaged, and a row that is not ended has no LF. Assumes nothing.
use Prim.Native.Nat.{ℕ}
use mathlib.Core.Bool.{Bool, true, false, cond}
use mathlib.Core.List.{List, [], ◌∷◌, ◌++◌}
use mathlib.Core.Path.{◌≡◌, refl}
use lib.ListN.{length}
use lib.Dec.{eqb, ltb}
use borrow.Author.Tests.{eqb-false}
use Rattle.transcript.specs.Names.{Err, None, Ok, Option, Phase, Planned, Row, Run, Some}
use Rattle.run.specs.Start.{start_of}
use Rattle.run.specs.Undamaged.{undamaged}
use Rattle.run.proofs.UndamagedLaws.{step_undamaged, start_undamaged}
use Rattle.text.specs.Ends.{breaks}
use Rattle.transcript.specs.Machine.{answered, Held, Line, Over, Mach, short, row_in, head_in, start_phase, plan_phase, plan_run, next_phase, next_row, next_run, push, ended, step_m, run_m, held_of, mach_of, fresh, held_breaks, Whole, most_line}
use Rattle.transcript.specs.Phases.{sound_in}
use Rattle.transcript.specs.Rehearsal.{run_after}
use Rattle.text.proofs.BreakLaws.{breaks_more}

-- ---- a row

pub start_sound : (p : Planned) (run : Run) → undamaged run ≡ true → sound_in (start_phase p) run ≡ true
start_sound (Err w) run h = refl
start_sound (Ok p) run h = h

plan_sound : (x : Option Row) (run : Run) → sound_in (plan_phase x) (plan_run run x) ≡ true
plan_sound None run = refl
plan_sound (Some (Row.Plan n k r b)) run = start_sound (start_of n k r b).planned (start_of n k r b).run (start_undamaged n k r b)
plan_sound (Some (Row.Step s)) run = refl

step_sound : (x : Option Row) (run : Run) → undamaged run ≡ true → undamaged (run_after run x) ≡ true
step_sound None run h = h
step_sound (Some (Row.Plan n k r b)) run h = h
step_sound (Some (Row.Step s)) run h = step_undamaged run s h

head_sound : (t : Bool) (run : Run) → sound_in (cond t Phase.Planning Phase.Ended) run ≡ true
head_sound true run = refl
head_sound false run = refl

next_sound : (p : Phase) (run : Run) (h : Held) → sound_in p run ≡ true → sound_in (next_phase p h) (next_run p run h) ≡ true
unfolding next_phase next_run
next_sound Phase.Header run h e = head_sound (head_in h) run
next_sound Phase.Planning run h e = plan_sound (row_in h) run
next_sound Phase.Running run h e = step_sound (row_in h) run e
next_sound Phase.Ended run h e = refl

-- ---- a byte

push_bare : (h : Held) (b : ℕ) → (b ≡ 10 → ⊥) → held_breaks h ≡ 0 → held_breaks (push h b) ≡ 0
unfolding push
push_bare (Line l) b n e = go (ltb (length l) most_line)
  where
    go : (t : Bool) → held_breaks (cond t (Line (l ++ (b ∷ []))) Over) ≡ 0
    go true = breaks_more l b n e
    go false = refl
push_bare Over b n e = refl

none_held : breaks [] ≡ 0
unfolding breaks
none_held = refl

whole_byte : (m : Mach) (b : ℕ) → Whole m → Whole (step_m m b)
unfolding step_m ended answered
whole_byte m b w = go (eqb b 10) refl
  where
    go : (t : Bool) → eqb b 10 ≡ t
        → Whole
        (cond t (record { held = Line []; phase = next_phase m.phase (short m.held); row = next_row m.phase m.row; run = next_run m.phase m.run (short m.held) }) (record { held = push m.held b; phase = m.phase; row = m.row; run = m.run }))
    go true e = (next_sound m.phase m.run (short m.held) w.0, none_held)
    go false e = (w.0, push_bare m.held b (eqb-false b 10 e) w.1)

-- ---- several

whole_run : (m : Mach) (l : List ℕ) → Whole m → Whole (run_m m l)
unfolding run_m
whole_run m [] w = w
whole_run m (b ∷ l) w = whole_run (step_m m b) l (whole_byte m b w)

pub whole_at : (m₀ m : Mach) (l : List ℕ) → Whole m₀ → m ≡ run_m m₀ l → Whole m
whole_at m₀ m l w e = rw e (whole_run m₀ l w)

-- before the first byte
pub fresh_whole : Whole (mach_of fresh)
unfolding held_of
fresh_whole = (refl, none_held)
