-- Whole step rows, one after another: their bytes, the steps that they ask for, and what is written of these: clause S16.9 of
-- docs/SCOPE.md as the loop goes through it.
use Rattle.std.specs.Prelude.{ℕ, ◌+◌, ◌*◌, ◌≤◌, true, List, [], ◌∷◌, ◌++◌, ◌≡◌, length, take, drop}
use Rattle.turns.specs.Names.{Run, Step, Went}
use Rattle.run.specs.Lists.{run_all}
use Rattle.run.specs.Steps.{step_of}
use Rattle.run.specs.Undamaged.{undamaged}
use Rattle.text.specs.Ends.{unended, breaks, step_in}
use Rattle.text.specs.Rows.{row_of}
use Rattle.print.specs.Put.{put}
use Rattle.print.specs.Rows.{step_text, room}

-- S16.2: lines, each with its LF, whose byte is 10
unfoldable pub closed : List (List ℕ) → List ℕ
closed [] = []
closed (l ∷ ls) = l ++ (10 ∷ closed ls)

-- S16.2: how many LFs are in the lines themselves
unfoldable pub breaks_in : List (List ℕ) → ℕ
breaks_in [] = 0
breaks_in (l ∷ ls) = breaks l + breaks_in ls

-- S16.9: the steps that lines ask for
unfoldable pub steps_in : List (List ℕ) → List Step
steps_in [] = []
steps_in (l ∷ ls) = step_in (row_of (unended l)) ∷ steps_in ls

-- S17.1, S17.2: what is written of steps, the first of which stands in row n
unfoldable pub text_all : ℕ → Run → List Step → List ℕ
text_all n run [] = []
text_all n run (x ∷ xs) = step_text n (step_of run x).answer ++ text_all (n + 1) (step_of run x).run xs

-- S16.9: all whole rows of s are answered: the buffer, d before, is e after, and the run is then `held`
pub record Took (s : List ℕ) (at row : ℕ) (run : Run) (d e : List ℕ) (held : Run) (r : Went) : Type 0 where
  pub lines : List (List ℕ)
  pub within : r.used ≤ length s
  pub taken : take r.used s ≡ closed lines
  pub unbroken : breaks_in lines ≡ 0
  pub rest : breaks (drop r.used s) ≡ 0
  pub says : e ≡ put d at (text_all row run (steps_in lines))
  pub ends : r.at ≡ at + length (text_all row run (steps_in lines))
  pub goes : held ≡ run_all run (steps_in lines)
  pub next : r.row ≡ row + length lines
  pub room : r.at ≤ at + room * breaks s
  pub rows : r.row ≤ row + breaks s
  pub sound : undamaged held ≡ true
