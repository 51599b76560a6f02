-- Where a row ends (clause S16.2 of docs/SCOPE.md), and what a row with its end says where steps are due.
use Rattle.std.specs.Prelude.{ℕ, ◌+◌, ◌-◌, ◌<◌, ◌≤◌, cond, List, [], ◌∷◌, ◌++◌, ◌≡◌, eqb, length, get_or, take, drop, Option, Some, None}
use Rattle.text.specs.Names.{Found, Row, Step}
use Rattle.text.specs.Rows.{row_of}

-- S16.2: one CR, whose byte is 13, belongs to the end
unfoldable pub unended : List ℕ → List ℕ
unended l = cond (eqb (get_or l (length l - 1) 0) 13) (take (length l - 1) l) l

-- S16.2: how many LFs, whose byte is 10, are among these bytes
unfoldable pub breaks : List ℕ → ℕ
breaks [] = 0
breaks (b ∷ l) = cond (eqb b 10) 1 0 + breaks l

-- S16.10: where steps are due, a row that is no step stands for a step of no known kind: that is answered 2 and changes nothing, too
abbrev pub step_in : Option Row → Step
step_in None = Step.Other
step_in (Some (Row.Plan n k r b)) = Step.Other
step_in (Some (Row.Step x)) = x

-- S16.2: these bytes are a line and its LF, and the line asks for x
pub record OneRow (l : List ℕ) (x : Step) : Type 0 where
  pub line : List ℕ
  pub ends : l ≡ line ++ (10 ∷ [])
  pub unbroken : breaks line ≡ 0
  pub asks : step_in (row_of (unended line)) ≡ x

-- S16.2: the first n bytes of s are such a row
pub record Leads (s : List ℕ) (x : Step) (n : ℕ) : Type 0 where
  pub within : n ≤ length s
  pub row : OneRow (take n s) x

-- S16.2: from i on no LF comes; or the next whole row ends at f.end and asks for f.step
abbrev pub Finds : List ℕ → ℕ → Option Found → Type 0
Finds s i None = breaks (drop i s) ≡ 0
Finds s i (Some f) = (i < f.end) × (f.end ≤ length s) × OneRow (take (f.end - i) (drop i s)) f.step
