-- `bytes_at` meets its contract. Assumes nothing.
use Prim.Native.Nat.{ℕ}
use mathlib.Core.Path.{◌≡◌, sym, ◌∙◌, ap}
use Rattle.std.specs.Prelude.{Option, Some, None}
use Rattle.text.specs.Fields.{byte_by}
use Rattle.text.specs.Pieces.{pair_by}
use Rattle.text.proofs.PairLaws.{byte_of_number, bytes_none, bytes_is}
use Rattle.text.proofs.field.bytes_at.Goals as goal

pub returns-in_err-a-clause-value : goal.returns-in_err-a-clause-value
returns-in_err-a-clause-value c = c.from_residual.ensures ∙ bytes_none _ (sym c.in_err-a.ensures.value)

pub returns-in_err-ok-clause-value : goal.returns-in_err-ok-clause-value
returns-in_err-ok-clause-value c =
    let one : None ≡ byte_by (Some c.in_ok-a.a) = c.in_err-ok.ensures.value ∙ byte_of_number _ _ c.try_from.ensures in
    c.from_residual-in_err-ok.ensures
    ∙ ap (λ (x : Option ℕ). pair_by x (byte_by (Some c.in_ok-a.b)) c.in_ok-a.n) one
    ∙ bytes_is _ _ _ _ (sym c.in_ok-a.ensures.value)

pub returns-in_err-ok-2-clause-value : goal.returns-in_err-ok-2-clause-value
returns-in_err-ok-2-clause-value c =
    let one : Some c.in_ok-ok.field-0 ≡ byte_by (Some c.in_ok-a.a) = c.in_ok-ok.ensures.value ∙ byte_of_number _ _ c.try_from.ensures in
    let two : None ≡ byte_by (Some c.in_ok-a.b) = c.in_err-ok-2.ensures.value ∙ byte_of_number _ _ c.try_from-2.ensures in
    c.from_residual-in_err-ok-2.ensures
    ∙ ap (λ (x : Option ℕ). pair_by x None c.in_ok-a.n) one
    ∙ ap (λ (y : Option ℕ). pair_by (byte_by (Some c.in_ok-a.a)) y c.in_ok-a.n) two
    ∙ bytes_is _ _ _ _ (sym c.in_ok-a.ensures.value)

pub returns-clause-value : goal.returns-clause-value
returns-clause-value c =
    let one : Some c.in_ok-ok.field-0 ≡ byte_by (Some c.in_ok-a.a) = c.in_ok-ok.ensures.value ∙ byte_of_number _ _ c.try_from.ensures in
    let two : Some c.in_ok-ok-2.field-0 ≡ byte_by (Some c.in_ok-a.b) = c.in_ok-ok-2.ensures.value ∙ byte_of_number _ _ c.try_from-2.ensures in
    ap (λ (x : Option ℕ). pair_by x (Some c.in_ok-ok-2.field-0) c.in_ok-a.n) one
    ∙ ap (λ (y : Option ℕ). pair_by (byte_by (Some c.in_ok-a.a)) y c.in_ok-a.n) two
    ∙ bytes_is _ _ _ _ (sym c.in_ok-a.ensures.value)
