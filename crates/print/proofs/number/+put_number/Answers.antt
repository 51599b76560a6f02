-- `put_number` meets its contract: a number of at most four digits whole, or the digits before the last four and then those. Assumes nothing.
use Prim.Native.Nat.{◌/◌}
use native.Mathlib.Omega.{arith}
use Rattle.print.proofs.NumberLaws.{decimal_then_four, length_decimal}
use Rattle.print.proofs.PutLaws.{after, same}
use Rattle.print.proofs.number.+put_number.Goals as goal

pub returns-then-n-lt10000-clause-upper_bound : goal.returns-then-n-lt10000-clause-upper_bound
returns-then-n-lt10000-clause-upper_bound _ c = omega (arith, length_decimal 3 c.args.n (omega arith))

pub put_four-requires : goal.put_four-requires
put_four-requires _ c = omega (arith, length_decimal 15 (c.args.n / 10000) (omega arith))

pub returns : goal.returns
returns _ c =
    let both = after _ _ _ c.put_number-i.ensures.wrote c.put_four.ensures (omega arith) in
    let wrote = same _ _ (decimal_then_four _ c.if-n-lt10000.false (omega arith)) both in
    record { wrote = wrote; upper_bound = omega (arith, wrote.1, length_decimal 19 c.args.n (omega arith)) }
