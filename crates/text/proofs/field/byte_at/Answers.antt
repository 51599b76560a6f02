-- `byte_at` meets its contract. Assumes nothing.
use mathlib.Core.Path.{◌≡◌, sym, ◌∙◌, ap}
use Prim.Native.Nat.{ℕ}
use Rattle.std.specs.Prelude.{Option, Some, None}
use Rattle.text.specs.Fields.{byte_by}
use Rattle.text.specs.Pieces.{number_by}
use Rattle.text.proofs.PairLaws.{byte_none, byte_is, byte_of_number}
use Rattle.text.proofs.field.byte_at.Goals as goal

pub returns-in_err-v-clause-value : goal.returns-in_err-v-clause-value
returns-in_err-v-clause-value c = c.from_residual.ensures ∙ byte_none _ (sym c.in_err-v.ensures.value)

pub returns-in_err-ok-clause-value : goal.returns-in_err-ok-clause-value
returns-in_err-ok-clause-value c =
    let none : None ≡ byte_by (Some c.in_ok-v.v) = c.in_err-ok.ensures.value ∙ byte_of_number _ _ c.try_from.ensures in
    c.from_residual-in_err-ok.ensures ∙ ap (λ (x : Option ℕ). number_by x c.in_ok-v.n) none ∙ byte_is _ _ _ (sym c.in_ok-v.ensures.value)

pub returns-clause-value : goal.returns-clause-value
returns-clause-value c =
    let some : Some c.in_ok-ok.field-0 ≡ byte_by (Some c.in_ok-v.v) = c.in_ok-ok.ensures.value ∙ byte_of_number _ _ c.try_from.ensures in
    ap (λ (x : Option ℕ). number_by x c.in_ok-v.n) some ∙ byte_is _ _ _ (sym c.in_ok-v.ensures.value)
