-- `put_step` meets its contract: the row number, and then the outcome or the refusal. Assumes nothing.
use native.Mathlib.Omega.{arith}
use Rattle.print.proofs.PutLaws.{after, same}
use Rattle.print.proofs.RowLaws.{row_refused, row_accepted}
use Rattle.print.specs.Rows.{step_text}
use Rattle.print.proofs.row.put_step.Goals as goal

pub returns-in-Ok-clause-wrote : goal.returns-in-Ok-clause-wrote
unfolding step_text
returns-in-Ok-clause-wrote c =
    rw c.in-Ok.is (same _ _ (row_accepted _ _) (after _ _ _ c.put_number-i.ensures.wrote c.put_outcome.ensures.wrote (omega arith)))

pub returns-in-Err-clause-wrote : goal.returns-in-Err-clause-wrote
unfolding step_text
returns-in-Err-clause-wrote c =
    rw c.in-Err.is (same _ _ (row_refused _ _ _ c.from.ensures)
    (after _ _ _ c.put_number-i.ensures.wrote c.put_refused.ensures.wrote (omega arith)))
