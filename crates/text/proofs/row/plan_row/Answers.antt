-- `plan_row` meets its contract. Assumes nothing.
use mathlib.Core.Bool.{Bool}
use mathlib.Core.Path.{sym, ◌∙◌, ap}
use native.Mathlib.Omega.{arith}
use Rattle.std.specs.Bool.{then_some}
use Rattle.std.proofs.lemmas.Bool.Decides.{nat_tests}
use Rattle.text.proofs.PairLaws.{at_end}
use Rattle.text.proofs.PlanLaws.{plan_none, plan_short, plan_half_none, plan_is}
use Rattle.text.specs.Names.{Row}
use Rattle.text.proofs.row.plan_row.Goals as goal

pub returns-in_err-n : goal.returns-in_err-n
returns-in_err-n c = c.from_residual.ensures ∙ plan_none _ (sym c.in_err-n.ensures.value)

pub returns-in_err-rest : goal.returns-in_err-rest
returns-in_err-rest c =
    c.from_residual-in_err-rest.ensures
    ∙ plan_short _ _ _ _ (sym c.in_ok-n.ensures.value) (at_end _ _ c.in_ok-n.ensures.within c.in_err-rest.ensures.lookup.0)

pub returns-in_err-r : goal.returns-in_err-r
returns-in_err-r c =
    let rest = c.in_ok-rest.ensures.lookup.0 in
    c.from_residual-in_err-r.ensures ∙ plan_half_none _ _ _ _ (sym c.in_ok-n.ensures.value) rest.0 _ rest.2 (sym c.in_err-r.ensures.value)

pub returns : goal.returns
returns c =
    let rest = c.in_ok-rest.ensures.lookup.0 in
    c.then_some.ensures
    ∙ ap (λ (t : Bool). then_some t (Row.Plan c.in_ok-n.n c.in_ok-n.k c.in_ok-r.r c.in_ok-r.b)) (grind (arith, nat_tests))
    ∙ plan_is _ _ _ _ (sym c.in_ok-n.ensures.value) rest.0 _ rest.2 _ _ _ (sym c.in_ok-r.ensures.value)
