-- `minutes` meets its contract. Assumes nothing.
use mathlib.Core.Path.{sym, ◌∙◌}
use Rattle.text.proofs.ReadingLaws.{minutes_none, minutes_is}
use Rattle.text.proofs.reading.minutes.Goals as goal

pub returns-in_err-m : goal.returns-in_err-m
returns-in_err-m c = c.from_residual.ensures ∙ minutes_none _ (sym c.in_err-m.ensures.value)

pub returns : goal.returns
returns c = c.then_some.ensures ∙ minutes_is _ _ _ (sym c.in_ok-m.ensures.value) _ c.eq.ensures
