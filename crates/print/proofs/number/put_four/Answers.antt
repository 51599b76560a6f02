-- `put_four` meets its contract: one pair behind another. Assumes nothing.
use native.Mathlib.Omega.{arith}
use Rattle.print.proofs.PutLaws.{after}
use Rattle.print.specs.Numbers.{four}
use Rattle.print.proofs.number.put_four.Goals as goal

pub returns : goal.returns
unfolding four
returns c = after _ _ _ c.put_pair-i.ensures c.put_pair.ensures (omega arith)
