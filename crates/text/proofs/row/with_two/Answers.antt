-- `with_two` meets its contract. Assumes nothing.
use mathlib.Core.Path.{sym, ◌∙◌}
use native.Mathlib.Omega.{arith}
use Rattle.text.proofs.StepLaws.{two_none, two_is}
use Rattle.text.proofs.row.with_two.Goals as goal

pub returns-in_err-a : goal.returns-in_err-a
returns-in_err-a c = c.from_residual.ensures ∙ two_none _ _ (sym c.in_err-a.ensures.value)

pub returns : goal.returns
returns c = c.then_some.ensures ∙ two_is _ _ _ _ _ (sym c.in_ok-a.ensures.value) _ (grind arith) _ c.two_step.ensures
