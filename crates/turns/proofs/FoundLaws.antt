-- A row that was found between two rows: its answer has room, and after it what held holds again. Assumes nothing.
use Rattle.std.proofs.Common.{ℕ, ◌+◌, ◌^◌, ◌≤◌, ◌<◌, ◌≡◌, List, length, subst}
use Rattle.turns.specs.Names.{Found, Option, Run, Some, Stepped}
use Rattle.run.specs.Steps.{step_of}
use Rattle.text.specs.Ends.{Finds}
use Rattle.print.specs.Put.{Wrote}
use Rattle.print.specs.Rows.{step_text, room}
use Rattle.turns.proofs.TakingLaws.{Taking, taking_room, taking_row, taking_next}

-- the row that was found behind i
module _ (s : List ℕ) (i : ℕ) (r : Option Found) (found : Finds s i r) (x : Found) (is : r ≡ Some x) where
  row_there : Finds s i (Some x)
  row_there = subst (Finds s i) is found

  module _ {at row : ℕ} {run : Run} {d e : List ℕ} {o n : ℕ} {held : Run} (t : Taking s at row run d i e o n held) where
    pub has_room : o + room ≤ length e
    has_room = taking_room s i x.end x.step row_there.0 row_there.1 row_there.2 at row run d e o n held t

    pub next_row : n + 1 < 2 ^ 64
    next_row = taking_row s i x.end x.step row_there.0 row_there.1 row_there.2 at row run d e o n held t

    pub next : (f : List ℕ) (q : ℕ) (z : Stepped) → z ≡ step_of held x.step → Wrote e o (step_text n z.answer) f q → q ≤ o + room
        → Taking s at row run d x.end f q (n + 1) z.run
    next = taking_next s i x.end x.step row_there.0 row_there.1 row_there.2 at row run d e o n held t
