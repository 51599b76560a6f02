use Rattle.std.proofs.Common.{◌≤◌}
use Rattle.speed.proofs.speed_check.Given as goal

abbrev pub invariant-loop-i : goal.invariant-loop-i
invariant-loop-i l = l.passed ≤ l.i
