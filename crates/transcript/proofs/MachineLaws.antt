-- Laws of the machine, as the code has it: a row's bytes, one byte, several, and the input's end. Assumes nothing.
use Prim.Native.Nat.{ℕ, ◌+◌, ◌-◌, ◌<◌, ◌≤◌}
use native.Mathlib.Numerals.{add-one}
use native.Mathlib.Omega.{arith}
use mathlib.Core.Bool.{Bool, true, false, cond}
use mathlib.Core.List.{List, [], ◌∷◌, ◌++◌, append_assoc, append-nil}
use mathlib.Core.Path.{◌≡◌, refl, sym, ◌∙◌, ap}
use lib.ListN.{length, length-append, get_or, set, take}
use lib.Seq.{take-suc, take-suc-set, length-take-le, take_all}
use lib.Dec.{eqb, leb}
use borrow.Author.Tests.{ne_eqb, lt-ltb, le-ltb, le-leb, lt-leb, leb-true}
use Rattle.std.proofs.lemmas.List.{take-take}
use Rattle.transcript.specs.Names.{None, Phase, Run}
use Rattle.text.specs.Ends.{unended}
use Rattle.print.specs.Put.{put}
use Rattle.print.specs.Numbers.{decimal, digits_by}
use Rattle.print.specs.Rows.{row_text, no_header_text, head_text}
use Rattle.print.proofs.PutLaws.{put_none, after}
use Rattle.transcript.specs.Machine.{Held, Line, Over, Mach, pick_held, short, next_row, say_line, push, step_m, say_m, run_m, say_all, end_by, held_of, most_line}

-- ---- a row's bytes

pub held_more : (n b : ℕ) (l : List ℕ) → length l ≡ most_line → n < most_line → held_of (n + 1) (set l n b) ≡ push (held_of n l) b
unfolding held_of push
held_more n b l e h =
    let k : n < length l = omega arith in
    let k' : n ≤ most_line = omega arith in
    let q : n + 1 ≤ most_line = omega arith in
    let t : length (take n l) ≡ n = length-take-le n l (omega arith) in
    let u : length (take n l) < most_line = omega arith in
    rw (le-leb _ _ q, le-leb _ _ k', lt-ltb _ _ u, add-one, take-suc-set l n b k)

pub held_full : (n b : ℕ) (l m : List ℕ) → length l ≡ most_line → most_line ≤ n → held_of (most_line + 1) m ≡ push (held_of n l) b
unfolding held_of push
held_full n b l m e h = go (leb n most_line) refl
  where
    go : (t : Bool) → leb n most_line ≡ t → Over ≡ push (cond t (Line (take n l)) Over) b
    go true f = let v : n ≤ most_line = leb-true n most_line f in let w : length (take n l) ≡ n = length-take-le n l (omega arith) in let u : most_line ≤ length (take n l) = omega arith in rw (le-ltb _ _ u)
    go false f = refl

-- a row's end is no more than what is behind the row without it
shorter : (l : List ℕ) → (length (unended l) ≤ length l) × (take (length (unended l)) l ≡ unended l)
unfolding unended
shorter l = go (eqb (get_or l (length l - 1) 0) 13)
  where
    go : (t : Bool) → (length (cond t (take (length l - 1) l) l) ≤ length l) × (take (length (cond t (take (length l - 1) l) l)) l ≡ cond t (take (length l - 1) l) l)
    go true = let e : length (take (length l - 1) l) ≡ length l - 1 = length-take-le (length l - 1) l (omega arith) in (omega arith, rw e refl)
    go false = (omega arith, take_all (length l) l (omega arith))

pub held_short : (n : ℕ) (l : List ℕ) → length l ≡ most_line → n ≤ most_line → held_of (length (unended (take n l))) l ≡ short (held_of n l)
unfolding held_of
held_short n l e h =
    let t : length (take n l) ≡ n = length-take-le n l (omega arith) in
    let q = shorter (take n l) in
    let k : length (unended (take n l)) ≤ most_line = omega arith in
    let w : take (length (unended (take n l))) l ≡ unended (take n l) = sym (take-take (length (unended (take n l))) n l (omega arith)) ∙ q.1 in
    rw (le-leb _ _ h, le-leb _ _ k, w) refl

-- what is held of a row that is too long, at its LF too
pub held_over : (n : ℕ) (l : List ℕ) → most_line < n → (held_of n l ≡ pick_held None) × (pick_held None ≡ short (held_of n l))
unfolding held_of
held_over n l h = rw (lt-leb _ _ h) (refl, refl)

-- what the code needs of these, for a byte that is held and for a row's end
pub ruleset in_row = (held_more, held_full, held_short, held_over)

pub held_none : (l : List ℕ) → held_of 0 l ≡ Line []
unfolding held_of
held_none l = refl

-- the header's refusal is two rows, and both fit the room of one
pub heads_fit : length (head_text ++ no_header_text) ≡ 62
unfolding head_text no_header_text row_text decimal digits_by
heads_fit = refl

pub row_grows : (p : Phase) (n : ℕ) → next_row p n ≤ n + 1
unfolding next_row
row_grows Phase.Header n = omega arith
row_grows Phase.Planning n = omega arith
row_grows Phase.Running n = omega arith
row_grows Phase.Ended n = omega arith

-- ---- several

run_snoc : (m : Mach) (l : List ℕ) (b : ℕ) → run_m m (l ++ (b ∷ [])) ≡ step_m (run_m m l) b
unfolding run_m
run_snoc m [] b = refl
run_snoc m (x ∷ l) b = run_snoc (step_m m x) l b

say_snoc : (m : Mach) (l : List ℕ) (b : ℕ) → say_all m (l ++ (b ∷ [])) ≡ say_all m l ++ say_m (run_m m l) b
unfolding run_m say_all
say_snoc m [] b = append-nil _
say_snoc m (x ∷ l) b = rw (say_snoc (step_m m x) l b, append_assoc)

pub run_none : (m : Mach) → run_m m [] ≡ m
unfolding run_m
run_none m = refl

pub say_none : (m : Mach) → say_all m [] ≡ []
unfolding say_all
say_none m = refl

pub put_on : (d : List ℕ) (at : ℕ) (s t : List ℕ) → at ≤ length d → put (put d at s) (at + length s) t ≡ put d at (s ++ t)
put_on d at s t h = (after d s t (refl, refl) (refl, refl) h).0

module _ (m : Mach) (s : List ℕ) (i : ℕ) (h : i < length s) where
  one_more : take (i + 1) s ≡ take i s ++ (get_or s i 0 ∷ [])
  one_more = rw add-one (take-suc s i 0 h)

  pub run_next : run_m m (take (i + 1) s) ≡ step_m (run_m m (take i s)) (get_or s i 0)
  run_next = ap (run_m m) one_more ∙ run_snoc m (take i s) (get_or s i 0)

  pub say_next : say_all m (take (i + 1) s) ≡ say_all m (take i s) ++ say_m (run_m m (take i s)) (get_or s i 0)
  say_next = ap (say_all m) one_more ∙ say_snoc m (take i s) (get_or s i 0)

-- a row that is too long stays so until its LF, and nothing is said
module _ (m : Mach) (s : List ℕ) (i n : ℕ) (l : List ℕ) (p : Phase) (row : ℕ) (run : Run) (h : i < length s)
    (over : most_line < n) (bare : get_or s i 0 ≡ 10 → ⊥)
    (state : record { held = held_of n l; phase = p; row = row; run = run } ≡ run_m m (take i s)) where
  stays : step_m (record { held = held_of n l; phase = p; row = row; run = run }) (get_or s i 0)
      ≡ record { held = held_of n l; phase = p; row = row; run = run }
  unfolding step_m held_of push
  stays = rw (ne_eqb _ _ bare, lt-leb _ _ over) refl

  silent : say_m (run_m m (take i s)) (get_or s i 0) ≡ []
  unfolding say_m
  silent = rw (ne_eqb _ _ bare) refl

  pub over_stays : record { held = held_of n l; phase = p; row = row; run = run } ≡ run_m m (take (i + 1) s)
  over_stays = sym (run_next m s i h ∙ ap (λ (x : Mach). step_m x (get_or s i 0)) (sym state) ∙ stays)

  pub over_silent : say_all m (take (i + 1) s) ≡ say_all m (take i s)
  over_silent = say_next m s i h ∙ ap (λ (x : List ℕ). say_all m (take i s) ++ x) silent ∙ append-nil _

-- what the loop over a part's bytes needs
pub ruleset in_part = (run_none, say_none, run_next, say_next, put_none, put_on, length-append)

-- ---- the input's end

end_some : (p : Phase) (n : ℕ) (run : Run) (l : List ℕ) → 0 < length l → say_line p n run (Line l) ≡ end_by p n run (Line l)
unfolding end_by say_line
end_some Phase.Header n run l h = refl
end_some Phase.Planning n run [] h = absurd (omega arith)
end_some Phase.Planning n run (x ∷ l) h = refl
end_some Phase.Running n run [] h = absurd (omega arith)
end_some Phase.Running n run (x ∷ l) h = refl
end_some Phase.Ended n run l h = refl

end_empty : (p : Phase) (n : ℕ) (run : Run) → (p ≡ Phase.Header → ⊥) → [] ≡ end_by p n run (Line [])
unfolding end_by
end_empty Phase.Header n run e = absurd (e refl)
end_empty Phase.Planning n run e = refl
end_empty Phase.Running n run e = refl
end_empty Phase.Ended n run e = refl

end_long : (p : Phase) (n : ℕ) (run : Run) → say_line p n run Over ≡ end_by p n run Over
unfolding end_by say_line
end_long Phase.Header n run = refl
end_long Phase.Planning n run = refl
end_long Phase.Running n run = refl
end_long Phase.Ended n run = refl

-- a row that is too long is said as any other
pub end_over : (p : Phase) (n : ℕ) (run : Run) (k : ℕ) (l : List ℕ) → most_line < k
    → say_line p n run (pick_held None) ≡ end_by p n run (held_of k l)
unfolding held_of
end_over p n run k l h = rw (lt-leb _ _ h) (end_long p n run)

-- a row that has a byte is said as any other, and the header row in any case
pub end_held : (p : Phase) (n : ℕ) (run : Run) (k : ℕ) (l : List ℕ) → length l ≡ most_line → 0 < k
    → say_line p n run (held_of k l) ≡ end_by p n run (held_of k l)
unfolding held_of
end_held p n run k l e z = go (leb k most_line) refl
  where
    go : (t : Bool) → leb k most_line ≡ t → say_line p n run (cond t (Line (take k l)) Over) ≡ end_by p n run (cond t (Line (take k l)) Over)
    go true h =
        let few : k ≤ most_line = leb-true k most_line h in
        let some : length (take k l) ≡ k = length-take-le k l (omega arith) in
        end_some p n run (take k l) (omega arith)
    go false h = end_long p n run

pub end_header : (p : Phase) (n : ℕ) (run : Run) (h : Held) → p ≡ Phase.Header → say_line p n run h ≡ end_by p n run h
unfolding end_by
end_header p n run h e = rw e refl

pub end_none : (p : Phase) (n : ℕ) (run : Run) (k : ℕ) (l : List ℕ) → k ≡ 0 → (p ≡ Phase.Header → ⊥) → [] ≡ end_by p n run (held_of k l)
end_none p n run k l z e = rw (z, held_none l) (end_empty p n run e)

-- what the code needs at the input's end
pub ruleset at_end = (put_none, end_none, end_held, end_header)
