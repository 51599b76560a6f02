-- `put_short_field` meets its contract: a comma and then the number. Assumes nothing.
use native.Mathlib.Omega.{arith}
use Rattle.print.proofs.NumberLaws.{length_decimal}
use Rattle.print.proofs.PutLaws.{after}
use Rattle.print.proofs.number.put_short_field.Goals as goal

pub returns-clause-wrote : goal.returns-clause-wrote
returns-clause-wrote c = after _ _ _ c.put_byte-i.ensures c.put_up_to_four.ensures (omega arith)

pub returns-clause-upper_bound : goal.returns-clause-upper_bound
returns-clause-upper_bound c = omega (arith, length_decimal 2 c.args.n (omega arith))
