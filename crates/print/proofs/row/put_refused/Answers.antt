-- `put_refused` meets its contract: the answer, the word and the empty fields. Assumes nothing.
use native.Mathlib.Omega.{arith}
use Rattle.print.proofs.PutLaws.{after}
use Rattle.print.proofs.row.put_refused.Goals as goal

pub returns-clause-wrote : goal.returns-clause-wrote
returns-clause-wrote c = after _ _ _ c.put_short_field-i.ensures.wrote c.put_bytes.ensures (omega arith)
