-- `head_if` meets its contract. Assumes nothing.
use mathlib.Core.Bool.{Bool, true, false}
use mathlib.Core.Path.{◌≡◌, refl, ◌∙◌}
use Prim.Native.Nat.{ℕ}
use Rattle.std.specs.Prelude.{None}
use Rattle.std.specs.Bool.{then_some}
use Rattle.text.specs.Pieces.{head_if}
use Rattle.text.specs.Names.{Kind}
use Rattle.text.proofs.BytesLaws.{begins_by}
use Rattle.text.proofs.word.head_if.Goals as goal

head : (t : Bool) (k : Kind) (n : ℕ) → then_some t (record { kind = k; end = n }) ≡ head_if t k n None
head true k n = refl
head false k n = refl

pub returns : goal.returns
returns c = c.then_some.ensures ∙ rw (begins_by _ _ _ c.starts_with.ensures.value) (head _ _ _)
