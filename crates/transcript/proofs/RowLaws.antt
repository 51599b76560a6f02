-- Whole rows where steps are due: what the machine makes of their bytes is what the steps that they ask for make of the run. Assumes nothing.
use Prim.Native.Nat.{ℕ, zero, suc, ◌+◌, ◌<◌}
use native.Mathlib.Omega.{arith}
use mathlib.Core.Bool.{true}
use mathlib.Core.List.{List, [], ◌∷◌, ◌++◌, append_assoc, append-nil}
use mathlib.Core.Path.{◌≡◌, refl, sym, ◌∙◌, ap}
use lib.ListN.{get_or, length}
use borrow.Author.Tests.{ne_eqb}
use Rattle.transcript.specs.Names.{Err, None, Option, Phase, Refusal, Row, Run, Some, Step, Stepped}
use Rattle.admit.specs.Admit.{in_range, admit_of}
use Rattle.run.specs.Lists.{run_all}
use Rattle.run.specs.Steps.{decide_of, go_of, step_of}
use Rattle.run.specs.Undamaged.{undamaged}
use Rattle.run.proofs.FrameLaws.{step_is_go}
use Rattle.run.proofs.UndamagedLaws.{step_undamaged}
use Rattle.text.specs.Ends.{unended, breaks, step_in}
use Rattle.text.specs.Rows.{row_of}
use Rattle.text.proofs.BreakLaws.{breaks_first}
use Rattle.print.specs.Rows.{step_text, refusal_text}
use Rattle.turns.specs.Turns.{closed, breaks_in, steps_in, text_all}
use Rattle.transcript.specs.Machine.{answered, Held, Mach, short, row_in, next_phase, next_row, next_run, say_line, push, ended, step_m, say_m, run_m, say_all, at_row}
use Rattle.transcript.specs.Rehearsal.{answer_text, run_after}
use Rattle.transcript.proofs.HeldLaws.{holds, hold_push, row_lf}

-- ---- bytes without LF

abbrev pub rowing : Held → ℕ → Run → Mach
rowing h n run = record { held = h; phase = Phase.Running; row = n; run = run }

byte_held : (h : Held) (n : ℕ) (run : Run) (b : ℕ) → (b ≡ 10 → ⊥) → step_m (rowing h n run) b ≡ rowing (push h b) n run
unfolding step_m
byte_held h n run b e = rw (ne_eqb _ _ e)

-- they are held
pub bare_run : (p l : List ℕ) (n : ℕ) (run : Run) → breaks l ≡ 0 → run_m (rowing (holds p) n run) l ≡ rowing (holds (p ++ l)) n run
unfolding run_m
bare_run p [] n run e = ap (λ (x : List ℕ). rowing (holds x) n run) (sym (append-nil p))
bare_run p (b ∷ l) n run e =
    let q = breaks_first b l e in
    ap (λ (m : Mach). run_m m l) (byte_held (holds p) n run b q.0 ∙ ap (λ (h : Held). rowing h n run) (hold_push p b))
    ∙ bare_run (p ++ (b ∷ [])) l n run q.1
    ∙ ap (λ (x : List ℕ). rowing (holds x) n run) (append_assoc p (b ∷ []) l)

pub no_lf : (s : List ℕ) (i : ℕ) → breaks s ≡ 0 → i < length s → (get_or s i 0 ≡ 10 → ⊥)
no_lf [] i e h = absurd (omega arith)
no_lf (b ∷ s) zero e h = (breaks_first b s e).0
no_lf (b ∷ s) (suc i) e h = no_lf s i (breaks_first b s e).1 (omega arith)

-- and nothing is said of them
byte_none : (m : Mach) (b : ℕ) → (b ≡ 10 → ⊥) → say_m m b ≡ []
unfolding say_m
byte_none m b e = rw (ne_eqb _ _ e)

pub bare_say : (m : Mach) (l : List ℕ) → breaks l ≡ 0 → say_all m l ≡ []
unfolding say_all
bare_say m [] e = refl
bare_say m (b ∷ l) e = let q = breaks_first b l e in rw (byte_none m b q.0, bare_say (step_m m b) l q.1)

-- ---- a row with its LF

pub run_append : (m : Mach) (l k : List ℕ) → run_m m (l ++ k) ≡ run_m (run_m m l) k
unfolding run_m
run_append m [] k = refl
run_append m (x ∷ l) k = run_append (step_m m x) l k

pub say_append : (m : Mach) (l k : List ℕ) → say_all m (l ++ k) ≡ say_all m l ++ say_all (run_m m l) k
unfolding run_m say_all
say_append m [] k = refl
say_append m (x ∷ l) k = rw (say_append (step_m m x) l k, append_assoc)

lf_run : (h : Held) (n : ℕ) (run : Run) → run_m (rowing h n run) (10 ∷ []) ≡ at_row (n + 1) (run_after run (row_in (short h)))
unfolding run_m step_m ended answered next_phase next_row next_run
lf_run h n run = refl

lf_say : (h : Held) (n : ℕ) (run : Run) → say_all (rowing h n run) (10 ∷ []) ≡ answer_text n run (row_in (short h))
unfolding say_all say_m say_line
lf_say h n run = append-nil _

module _ (l : List ℕ) (n : ℕ) (run : Run) (bare : breaks l ≡ 0) where
  pub row_run : run_m (at_row n run) (l ++ (10 ∷ [])) ≡ at_row (n + 1) (run_after run (row_of (unended l)))
  row_run = rw (run_append, bare_run [] l n run bare, lf_run (holds l) n run, row_lf l) refl

  pub row_say : say_all (at_row n run) (l ++ (10 ∷ [])) ≡ answer_text n run (row_of (unended l))
  row_say = rw (say_append, bare_say (at_row n run) l bare, bare_run [] l n run bare, lf_say (holds l) n run, row_lf l) refl

-- ---- as a step

no_kind_goes : (run : Run) → go_of run Step.Other ≡ record { answer = Err Refusal.Range; run = run }
unfolding go_of decide_of admit_of in_range
no_kind_goes run = refl

no_kind : (run : Run) → undamaged run ≡ true → step_of run Step.Other ≡ record { answer = Err Refusal.Range; run = run }
no_kind run h = step_is_go run Step.Other h ∙ no_kind_goes run

refused_text : (n : ℕ) → refusal_text n ≡ step_text n (Err Refusal.Range)
unfolding refusal_text step_text
refused_text n = refl

module _ (run : Run) (sound : undamaged run ≡ true) where
  pub asked_run : (x : Option Row) → run_after run x ≡ (step_of run (step_in x)).run
  asked_run None = rw (no_kind run sound) refl
  asked_run (Some (Row.Plan a b c d)) = rw (no_kind run sound) refl
  asked_run (Some (Row.Step s)) = refl

  pub asked_say : (n : ℕ) (x : Option Row) → answer_text n run x ≡ step_text n (step_of run (step_in x)).answer
  asked_say n None = rw (no_kind run sound) (refused_text n)
  asked_say n (Some (Row.Plan a b c d)) = rw (no_kind run sound) (refused_text n)
  asked_say n (Some (Row.Step s)) = refl

-- ---- lines, each with its LF

module _ (run : Run) (sound : undamaged run ≡ true) (n : ℕ) (l : List ℕ) (bare : breaks l ≡ 0) where
  line_run : (k : List ℕ) → run_m (at_row n run) (l ++ (10 ∷ k)) ≡ run_m (at_row (n + 1) (step_of run (step_in (row_of (unended l)))).run) k
  line_run k = rw (← append_assoc l (10 ∷ []) k, run_append, row_run l n run bare, asked_run run sound) refl

  line_say : (k : List ℕ)
      → say_all (at_row n run) (l ++ (10 ∷ k)) ≡ step_text n (step_of run (step_in (row_of (unended l)))).answer ++ say_all
      (at_row (n + 1) (step_of run (step_in (row_of (unended l)))).run) k
  line_say k = rw (← append_assoc l (10 ∷ []) k, say_append, row_run l n run bare, row_say l n run bare, asked_run run sound, asked_say run sound) refl

pub lines_run : (ls : List (List ℕ)) (n : ℕ) (run : Run) → undamaged run ≡ true → breaks_in ls ≡ 0
    → run_m (at_row n run) (closed ls) ≡ at_row (n + length ls) (run_all run (steps_in ls))
unfolding closed breaks_in steps_in run_all run_m
lines_run [] n run sound bare = let e : n + 0 ≡ n = omega arith in ap (λ (k : ℕ). at_row k run) (sym e)
lines_run (l ∷ ls) n run sound bare =
    let e : n + 1 + length ls ≡ n + suc (length ls) = omega arith in
    let r : Run = (step_of run (step_in (row_of (unended l)))).run in
    line_run run sound n l (omega arith) (closed ls)
    ∙ lines_run ls (n + 1) r (step_undamaged run (step_in (row_of (unended l))) sound) (omega arith)
    ∙ ap (λ (k : ℕ). at_row k (run_all r (steps_in ls))) e

pub lines_say : (ls : List (List ℕ)) (n : ℕ) (run : Run) → undamaged run ≡ true → breaks_in ls ≡ 0
    → say_all (at_row n run) (closed ls) ≡ text_all n run (steps_in ls)
unfolding closed breaks_in steps_in text_all say_all
lines_say [] n run sound bare = refl
lines_say (l ∷ ls) n run sound bare =
    let x = step_in (row_of (unended l)) in
    line_say run sound n l (omega arith) (closed ls)
    ∙ ap (λ (k : List ℕ). step_text n (step_of run x).answer ++ k) (lines_say ls (n + 1) (step_of run x).run (step_undamaged run x sound) (omega arith))
