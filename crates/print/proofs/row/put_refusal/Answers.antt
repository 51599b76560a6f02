-- `put_refusal` meets its contract: the row number, and then the refusal 2. Assumes nothing.
use native.Mathlib.Omega.{arith}
use Rattle.print.proofs.PutLaws.{after, same}
use Rattle.print.proofs.RowLaws.{row_refused}
use Rattle.print.specs.Rows.{refusal_text}
use Rattle.print.proofs.row.put_refusal.Goals as goal

pub returns-clause-wrote : goal.returns-clause-wrote
unfolding refusal_text
returns-clause-wrote c =
    same _ _ (row_refused _ _ _ c.from.ensures) (after _ _ _ c.put_number-i.ensures.wrote c.put_refused.ensures.wrote (omega arith))
