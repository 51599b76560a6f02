-- `with_one` meets its contract. Assumes nothing.
use mathlib.Core.Path.{sym, ◌∙◌}
use native.Mathlib.Omega.{arith}
use Rattle.text.proofs.StepLaws.{one_none, one_is}
use Rattle.text.proofs.row.with_one.Goals as goal

pub returns-in_err-a : goal.returns-in_err-a
returns-in_err-a c = c.from_residual.ensures ∙ one_none _ _ (sym c.in_err-a.ensures.value)

pub returns : goal.returns
returns c = c.then_some.ensures ∙ one_is _ _ _ _ (sym c.in_ok-a.ensures.value) _ (grind arith) _ c.one_step.ensures
