-- `compare` ends: each row ends behind where it began, and no more steps are counted than bytes are passed. Assumes nothing.
use Rattle.std.proofs.Common.{◌+◌, ◌-◌, ◌≤◌, length}
use Rattle.desk_cases.proofs.list.compare.Given as goal

abbrev pub invariant-loop-at : goal.invariant-loop-at
invariant-loop-at l = (l.at ≤ length l.s) × (l.tally.accepted + l.tally.refused ≤ l.at)

abbrev pub decreases-loop-at : goal.decreases-loop-at
decreases-loop-at l = length l.s - l.at
