-- `put_long_field` meets its contract: a comma and then the number. Assumes nothing.
use native.Mathlib.Omega.{arith}
use Rattle.print.proofs.PutLaws.{after}
use Rattle.print.proofs.number.put_long_field.Goals as goal

pub returns-clause-wrote : goal.returns-clause-wrote
returns-clause-wrote c = after _ _ _ c.put_byte-i.ensures c.put_number.ensures.wrote (omega arith)
