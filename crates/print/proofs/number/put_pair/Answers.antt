-- `put_pair` meets its contract: one digit behind another. Assumes nothing.
use native.Mathlib.Omega.{arith}
use Rattle.print.proofs.PutLaws.{after}
use Rattle.print.proofs.number.put_pair.Goals as goal

pub returns : goal.returns
returns c = after _ _ _ c.put_digit-i.ensures c.put_digit.ensures (omega arith)
