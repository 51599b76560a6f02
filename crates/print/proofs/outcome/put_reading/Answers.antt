-- `put_reading` meets its contract: a byte string, or the minutes between two. Assumes nothing.
use native.Mathlib.Omega.{arith}
use Rattle.print.proofs.NumberLaws.{length_decimal}
use Rattle.print.proofs.PutLaws.{after}
use Rattle.print.proofs.outcome.put_reading.Goals as goal

pub put_byte-requires : goal.put_byte-requires
put_byte-requires c = omega (arith, length_decimal 2 c.in-Open.minutes (omega arith))

pub returns-in-Open : goal.returns-in-Open
returns-in-Open c = record {
  wrote = rw c.in-Open.is (after _ _ _ (after _ _ _ c.put_bytes-i.ensures c.put_up_to_four-j.ensures (omega arith)) c.put_byte.ensures (omega arith));
  upper_bound = omega (arith, length_decimal 2 c.in-Open.minutes (omega arith));
}
