use Rattle.std.proofs.Common.{◌-◌, length}
use Rattle.turns.proofs.TakingLaws.{Taking}
use Rattle.turns.proofs.steps.Given as goal

abbrev pub invariant-loop-found : goal.invariant-loop-found
invariant-loop-found l = Taking l.fn.s l.fn.at l.fn.row l.fn.run l.fn.out l.went.used l.out l.went.at l.went.row l.run

abbrev pub decreases-loop-found : goal.decreases-loop-found
decreases-loop-found l = length l.s - l.went.used
