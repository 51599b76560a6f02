-- `put_up_to_four` meets its contract: one digit, two, one and then two, or four. Assumes nothing.
use native.Mathlib.Omega.{arith}
use Rattle.print.proofs.NumberLaws.{decimal_one, decimal_two, decimal_three, decimal_four}
use Rattle.print.proofs.PutLaws.{after, same}
use Rattle.print.proofs.number.put_up_to_four.Goals as goal

pub returns-then-n-lt10 : goal.returns-then-n-lt10
returns-then-n-lt10 c = same _ _ (decimal_one _ c.if-n-lt10.true) c.put_digit.ensures

pub returns-then-n-lt100 : goal.returns-then-n-lt100
returns-then-n-lt100 c = same _ _ (decimal_two _ c.if-n-lt10.false c.if-n-lt100.true) c.put_pair.ensures

pub returns-then-n-lt1000 : goal.returns-then-n-lt1000
returns-then-n-lt1000 c =
    same _ _ (decimal_three _ c.if-n-lt100.false c.if-n-lt1000.true)
    (after _ _ _ c.put_digit-i.ensures c.put_pair-then-n-lt1000.ensures (omega arith))

pub returns : goal.returns
returns c = same _ _ (decimal_four _ c.if-n-lt1000.false c.requires.0) c.put_four.ensures
