-- What a send and a rollback ask of the whole run: the lowest free slot (clause S6.2 of docs/SCOPE.md), and how many other
-- cabinets are marked (S12.11).
use Rattle.std.specs.Prelude.{ℕ, suc, ◌+◌, Bool, true, false, cond, not, ◌&&◌, List, [], ◌∷◌, eqb}
use Rattle.run.specs.Names.{Cabinet, Held, Slot}

-- S1.4: no message; S6.6: that is all that makes a slot free
abbrev pub is_empty : Held → Bool
is_empty Held.Empty = true
is_empty (Held.Request m) = false
is_empty (Held.Reply m) = false

-- S6.2: the lowest free slot from place i on, or the place past the end
unfoldable pub first_from : ℕ → List Slot → ℕ
first_from i [] = i
first_from i (t ∷ l) = cond (is_empty t.held) i (first_from (suc i) l)

-- S12.11: how many are marked at places other than p
unfoldable pub others_from : ℕ → ℕ → List Cabinet → ℕ
others_from p i [] = 0
others_from p i (k ∷ l) = cond (not (eqb i p) && k.marked) 1 0 + others_from p (suc i) l
