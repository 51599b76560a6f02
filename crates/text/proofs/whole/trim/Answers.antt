-- `trim` meets its contract. Assumes nothing.
use mathlib.Core.List.{List}
use Prim.Native.Nat.{ℕ}
use denote.Bor.{Bor}
use mathlib.Core.Path.{refl, ◌∙◌, ap}
use Rattle.text.proofs.EndLaws.{trimmed}
use Rattle.text.proofs.whole.trim.Goals as goal

pub returns : goal.returns
returns c = ap (λ (x : Bor (List ℕ)). x.now) c.unwrap_or.ensures ∙ trimmed _ _ _ refl c.strip_suffix.ensures.cases
