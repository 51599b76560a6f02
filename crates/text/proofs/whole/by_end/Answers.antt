-- `by_end` meets its contract: no LF comes, or one row to the next. Assumes nothing.
use mathlib.Core.Path.{sym, ◌∙◌, ap}
use Rattle.text.specs.Ends.{step_in}
use Rattle.text.proofs.BreakLaws.{lf_none, lf_at}
use Rattle.text.proofs.EndLaws.{ended_row}
use Rattle.text.proofs.whole.by_end.Goals as goal

pub returns-in_err-e : goal.returns-in_err-e
returns-in_err-e c = rw c.from_residual.ensures (lf_none _ (sym c.in_err-e.ensures))

pub returns : goal.returns
returns c =
    let f = lf_at _ _ (sym c.in_ok-e.ensures) in
    ended_row _ _ _ _ f.0 f.1 f.2 c.trim.ensures (c.step_of.ensures ∙ ap step_in c.parse.ensures)
