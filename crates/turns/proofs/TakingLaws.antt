-- What holds between two rows of a part, where each whole row is answered as its step is. Assumes nothing.
use Rattle.std.proofs.Common.{ℕ, ◌+◌, ◌-◌, ◌*◌, ◌^◌, ◌≤◌, ◌<◌, arith, true, List, [], ◌∷◌, ◌++◌, ◌≡◌, refl, ◌∙◌, ap, length, take, drop, length-append, take-append-drop, take-add, drop-drop}
use Rattle.turns.specs.Names.{Run, Step, Stepped}
use Rattle.run.specs.Lists.{run_all}
use Rattle.run.specs.Steps.{step_of}
use Rattle.run.specs.Undamaged.{undamaged}
use Rattle.run.proofs.ListLaws.{run_more}
use Rattle.run.proofs.UndamagedLaws.{step_undamaged}
use Rattle.text.specs.Ends.{breaks, OneRow}
use Rattle.text.proofs.BreakLaws.{breaks_append, breaks_lf}
use Rattle.print.specs.Put.{put, Wrote}
use Rattle.print.specs.Rows.{step_text, room}
use Rattle.print.proofs.PutLaws.{put_none, length_put, after}
use Rattle.turns.specs.Turns.{closed, breaks_in, steps_in, text_all, Took}
use Rattle.turns.proofs.LineLaws.{closed_more, unbroken_more, steps_more, steps_length, text_more}

-- what a part, the buffer d at `at`, the row number and the run have become after i bytes
pub record Taking (s : List ℕ) (at row : ℕ) (run : Run) (d : List ℕ) (i : ℕ) (e : List ℕ) (o n : ℕ) (held : Run) : Type 0 where
  pub lines : List (List ℕ)
  pub within : i ≤ length s
  pub taken : take i s ≡ closed lines
  pub unbroken : breaks_in lines ≡ 0
  pub same : length e ≡ length d
  pub goes : held ≡ run_all run (steps_in lines)
  pub next : n ≡ row + length lines
  pub wrote : Wrote d at (text_all row run (steps_in lines)) e o
  pub left : o + room * breaks (drop i s) ≤ at + room * breaks s
  pub rows : n + breaks (drop i s) ≤ row + breaks s
  pub sound : undamaged held ≡ true
  pub fits : at + room * breaks s ≤ length d
  pub counted : row + breaks s < 2 ^ 64

module _ (s : List ℕ) (at row : ℕ) (run : Run) (d : List ℕ) where
  pub taking_none : at + room * breaks s ≤ length d → row + breaks s < 2 ^ 64 → undamaged run ≡ true → Taking s at row run d 0 d at row run
  unfolding closed breaks_in steps_in text_all run_all
  taking_none f c h =
      record { lines = []; within = omega arith; taken = refl; unbroken = refl; same = refl; goes = refl; next = omega arith; wrote = (put_none d at, omega arith); left = omega arith; rows = omega arith; sound = h; fits = f; counted = c }

  pub taking_end : (i : ℕ) (e : List ℕ) (o n : ℕ) (held : Run) → Taking s at row run d i e o n held → breaks (drop i s) ≡ 0
      → Took s at row run d e held (record { used = i; at = o; row = n })
  taking_end i e o n held t none =
      record { lines = t.lines; within = t.within; taken = t.taken; unbroken = t.unbroken; rest = none; says = t.wrote.0; ends = t.wrote.1; goes = t.goes; next = t.next; room = omega (arith, t.left); rows = omega (arith, t.rows); sound = t.sound }

-- one row, from i to j
module _ (s : List ℕ) (i j : ℕ) (x : Step) (later : i < j) (within : j ≤ length s) (one : OneRow (take (j - i) (drop i s)) x) where
  to_there : take j s ≡ take i s ++ take (j - i) (drop i s)
  to_there = let e : i + (j - i) ≡ j = omega arith in cc (take-add i (j - i) s)

  from_there : drop (j - i) (drop i s) ≡ drop j s
  from_there = let e : i + (j - i) ≡ j = omega arith in cc (drop-drop (j - i) i s)

  one_less : breaks (drop i s) ≡ 1 + breaks (drop j s)
  one_less = grind (arith, take-append-drop (j - i) (drop i s), breaks_append (take (j - i) (drop i s)) (drop (j - i) (drop i s)), breaks_lf one.line one.unbroken, from_there)

  module _ (at row : ℕ) (run : Run) (d e : List ℕ) (o n : ℕ) (held : Run) (t : Taking s at row run d i e o n held) where
    pub taking_room : o + room ≤ length e
    taking_room = omega (arith, one_less)

    pub taking_row : n + 1 < 2 ^ 64
    taking_row = omega (arith, one_less)

    more : List (List ℕ)
    more = t.lines ++ (one.line ∷ [])

    bytes_on : take j s ≡ closed more
    unfolding more
    bytes_on = cc (to_there, closed_more t.lines one.line)

    steps_on : steps_in more ≡ steps_in t.lines ++ (x ∷ [])
    unfolding more
    steps_on = cc (steps_more t.lines one.line)

    goes_on : (step_of held x).run ≡ run_all run (steps_in more)
    goes_on = cc (run_more run (steps_in t.lines) x, steps_on)

    says_on : text_all row run (steps_in more) ≡ text_all row run (steps_in t.lines) ++ step_text n (step_of held x).answer
    says_on =
        let e : row + length (steps_in t.lines) ≡ n = omega (arith, steps_length t.lines, t.next) in
        cc (steps_on, text_more row run (steps_in t.lines) x)

    pub taking_next : (f : List ℕ) (q : ℕ) (r : Stepped) → r ≡ step_of held x → Wrote e o (step_text n r.answer) f q → q ≤ o + room
        → Taking s at row run d j f q (n + 1) r.run
    unfolding more
    taking_next f q r re w most =
        let h : breaks (drop i s) ≡ 1 + breaks (drop j s) = one_less in
        let v : Wrote e o (step_text n (step_of held x).answer) f q = rw re at w in
        let z : Wrote d at (text_all row run (steps_in more)) f q = rw says_on (after d _ _ t.wrote v (omega (arith, t.fits))) in
        let y : length (put d at (text_all row run (steps_in more))) ≡ length d = length_put d at _ (omega (arith, z.1, most, t.left, t.fits)) in
        rw re
        (record {
          lines = t.lines ++ (one.line ∷ []);
          within = within;
          taken = bytes_on;
          unbroken = unbroken_more t.lines one.line t.unbroken one.unbroken;
          same = ap length z.0 ∙ y;
          goes = goes_on;
          next = omega (arith, t.next, length-append t.lines (one.line ∷ []));
          wrote = z;
          left = omega (arith, most, t.left);
          rows = omega (arith, t.rows);
          sound = step_undamaged held x t.sound;
          fits = t.fits;
          counted = t.counted;
        })
