-- Whole rows that `steps` takes of a part, as the machine takes their bytes. Assumes nothing.
use Prim.Native.Nat.{ℕ, ◌≤◌}
use native.Mathlib.Omega.{arith}
use mathlib.Core.Bool.{true}
use mathlib.Core.List.{List, ◌++◌, append-nil}
use mathlib.Core.Path.{◌≡◌, refl, sym, ◌∙◌, ap}
use lib.ListN.{length, take, drop, take-append-drop}
use borrow.Author.Tests.{eqb-true}
use Rattle.transcript.specs.Names.{Phase, Rehearsal, Run, Went}
use Rattle.run.specs.Undamaged.{undamaged}
use Rattle.print.specs.Put.{Wrote}
use Rattle.print.proofs.PutLaws.{after}
use Rattle.turns.specs.Turns.{Took}
use Rattle.transcript.specs.Machine.{Mach, run_m, say_all, held_of, mach_of, at_row, at_step}
use Rattle.transcript.proofs.RowLaws.{bare_say, run_append, say_append, lines_run, lines_say}

-- ---- where steps are due

step_is_running : (p : Phase) (len : ℕ) → at_step p len ≡ true → (p ≡ Phase.Running) × (len ≡ 0)
step_is_running Phase.Header len e = absurd (let z : ◌≡◌ {A = ℕ} 0 1 = cc in omega arith)
step_is_running Phase.Planning len e = absurd (let z : ◌≡◌ {A = ℕ} 0 1 = cc in omega arith)
step_is_running Phase.Running len e = (refl, eqb-true len 0 e)
step_is_running Phase.Ended len e = absurd (let z : ◌≡◌ {A = ℕ} 0 1 = cc in omega arith)

-- where a step row begins, nothing is held, and the run is undamaged
row_begins : (p : Phase) (len : ℕ) (line : List ℕ) (n : ℕ) (run : Run) → at_step p len ≡ true
    → ◌≡◌ {A = Mach} (record { held = held_of len line; phase = p; row = n; run = run }) (at_row n run)
unfolding held_of
row_begins p len line n run e = let q = step_is_running p len e in rw (q.0, q.1)

pub step_sound : (r : Rehearsal) → at_step r.phase r.len ≡ true → undamaged r.run ≡ true
step_sound r due = rw (step_is_running r.phase r.len due).0 at r.sound

-- ---- the rows that were taken, as the machine takes their bytes

module _ (m₀ m : Mach) (s : List ℕ) (u : ℕ) (start : Mach) where
  split_run : m ≡ run_m m₀ (take u s) → m ≡ start → run_m start (drop u s) ≡ run_m m₀ s
  split_run e f = rw (← f, e, ← run_append, take-append-drop) refl

  split_say : m ≡ run_m m₀ (take u s) → m ≡ start → say_all m₀ (take u s) ++ say_all start (drop u s) ≡ say_all m₀ s
  split_say e f = rw (← f, e, ← say_append, take-append-drop) refl

module _ (s : List ℕ) (at row : ℕ) (run held : Run) (d e : List ℕ) (w : Went) (sound : undamaged run ≡ true) (k : Took s at row run d e held w) where
  took_goes : run_m (at_row row run) (take w.used s) ≡ at_row w.row held
  took_goes = ap (run_m (at_row row run)) k.taken ∙ lines_run k.lines row run sound k.unbroken ∙ rw (k.next, k.goes) refl

  took_wrote : Wrote d at (say_all (at_row row run) (take w.used s)) e w.at
  took_wrote = rw (k.taken, lines_say k.lines row run sound k.unbroken) (k.says, k.ends)

  took_all : run_m (at_row row run) s ≡ run_m (at_row w.row held) (drop w.used s)
  took_all = sym (split_run (at_row row run) _ s w.used (at_row w.row held) refl took_goes)

  took_said : say_all (at_row row run) s ≡ say_all (at_row row run) (take w.used s)
  took_said =
      sym (split_say (at_row row run) _ s w.used (at_row w.row held) refl took_goes)
      ∙ ap (λ (x : List ℕ). say_all (at_row row run) (take w.used s) ++ x) (bare_say (at_row w.row held) (drop w.used s) k.rest)
      ∙ append-nil _

-- ---- a part: the bytes before its first whole row, its whole rows, and the bytes behind them

module _ (m₀ : Mach) (s : List ℕ) (u : ℕ) (r : Rehearsal) (held : Run) (n : Mach) (w : Went) (d e f : List ℕ) (at end : ℕ) where
  -- rest is what the part has from u on, and last what its whole rows leave
  pub fed_on : (rest last : List ℕ) → rest ≡ drop u s → last ≡ drop w.used rest
      → mach_of r ≡ run_m m₀ (take u s) → Wrote d at (say_all m₀ (take u s)) e end → at_step r.phase r.len ≡ true
      → Took rest end r.row r.run e f held w
      → n ≡ run_m (record { held = held_of r.len r.line; phase = r.phase; row = w.row; run = held }) last
      → at ≤ length d
      → (n ≡ run_m m₀ s) × Wrote d at (say_all m₀ s) f w.at
  fed_on rest last re le g p due t h fits =
      let sound = step_sound r due in
      let b = row_begins r.phase r.len r.line r.row r.run due in
      let q : Wrote e end (say_all (at_row r.row r.run) rest) f w.at = rw (took_said rest end r.row r.run held e f w sound t) (took_wrote rest end r.row r.run held e f w sound t) in
      let z : Wrote d at (say_all m₀ (take u s) ++ say_all (at_row r.row r.run) rest) f w.at = after d _ _ p q fits in
      let y : say_all m₀ (take u s) ++ say_all (at_row r.row r.run) rest ≡ say_all m₀ s = rw re (split_say m₀ (mach_of r) s u (at_row r.row r.run) g b) in
      let x : run_m (at_row r.row r.run) rest ≡ run_m m₀ s = rw re (split_run m₀ (mach_of r) s u (at_row r.row r.run) g b) in
      let v : n ≡ run_m (at_row w.row held) (drop w.used rest) = h ∙ rw (row_begins r.phase r.len r.line w.row held due, le) refl in
      (v ∙ sym (took_all rest end r.row r.run held e f w sound t) ∙ x, rw y at z)
