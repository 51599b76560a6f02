-- `choose` meets its contract: each way through it is one way through the definition. Assumes nothing.
use Rattle.std.proofs.Common.{arith}
use Rattle.std.proofs.lemmas.Bool.Decides.{nat_tests}
use Rattle.plan.specs.Rule.{chosen, plan_of}
use Rattle.plan.proofs.RuleLaws.{ranges}
use Rattle.plan.proofs.choose.Goals as goal

pub returns-then-not-in_range : goal.returns-then-not-in_range
unfolding plan_of chosen
returns-then-not-in_range c = grind (arith, nat_tests)

pub overflow_mul-k : goal.overflow_mul-k
overflow_mul-k c = grind (arith, ranges)

pub overflow_add-k : goal.overflow_add-k
overflow_add-k c = grind (arith, ranges)

pub overflow_add-k-2 : goal.overflow_add-k-2
overflow_add-k-2 c = grind (arith, ranges)

pub forgetful-requires : goal.forgetful-requires
forgetful-requires c = grind (arith, ranges)

pub returns-then-k-b : goal.returns-then-k-b
unfolding plan_of chosen
returns-then-k-b c = grind (arith, nat_tests)

pub overflow_mul-k-2 : goal.overflow_mul-k-2
overflow_mul-k-2 c = grind (arith, ranges)

pub overflow_add-k-3 : goal.overflow_add-k-3
overflow_add-k-3 c = grind (arith, ranges)

pub overflow_add-k-4 : goal.overflow_add-k-4
overflow_add-k-4 c = grind (arith, ranges)

pub store-requires : goal.store-requires
store-requires c = grind (arith, ranges)

pub returns-then-k-r : goal.returns-then-k-r
unfolding plan_of chosen
returns-then-k-r c = grind (arith, nat_tests)

pub returns : goal.returns
unfolding plan_of chosen
returns c = grind (arith, nat_tests)
