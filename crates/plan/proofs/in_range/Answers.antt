-- `in_range` meets its contract. Assumes nothing.
use Rattle.std.proofs.Common.{arith}
use Rattle.std.proofs.lemmas.Bool.Decides.{nat_tests}
use Rattle.plan.specs.Rule.{in_range}
use Rattle.plan.proofs.in_range.Goals as goal

pub returns-then-r-k : goal.returns-then-r-k
unfolding in_range
returns-then-r-k c = grind (arith, nat_tests)

pub returns-else-r-k : goal.returns-else-r-k
unfolding in_range
returns-else-r-k c = grind (arith, nat_tests)
