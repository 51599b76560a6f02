-- `pair_at` meets its contract. Assumes nothing.
use mathlib.Core.Path.{sym, ◌∙◌}
use Rattle.text.proofs.PairLaws.{at_end, pair_none, pair_short, pair_half, pair_is}
use Rattle.text.proofs.field.pair_at.Goals as goal

pub returns-in_err-a-clause-value : goal.returns-in_err-a-clause-value
returns-in_err-a-clause-value c = c.from_residual.ensures ∙ pair_none _ (sym c.in_err-a.ensures.value)

pub returns-in_err-get-clause-value : goal.returns-in_err-get-clause-value
returns-in_err-get-clause-value c =
    c.from_residual-in_err-get.ensures
    ∙ pair_short _ _ _ (sym c.in_ok-a.ensures.value) (at_end _ _ c.in_ok-a.ensures.within c.in_err-get.ensures.lookup.0)

pub returns-in_err-b-clause-value : goal.returns-in_err-b-clause-value
returns-in_err-b-clause-value c =
    let rest = c.in_ok-get.ensures.lookup.0 in
    c.from_residual-in_err-b.ensures ∙ pair_half _ _ _ (sym c.in_ok-a.ensures.value) rest.0 _ rest.2 (sym c.in_err-b.ensures.value)

pub returns-clause-value : goal.returns-clause-value
returns-clause-value c =
    let rest = c.in_ok-get.ensures.lookup.0 in
    pair_is _ _ _ (sym c.in_ok-a.ensures.value) rest.0 _ rest.2 _ _ (sym c.in_ok-b.ensures.value)
