-- `pieces` ends: each piece ends behind where it began, and no more steps and pieces are counted than bytes are passed. Assumes nothing.
use Rattle.std.proofs.Common.{◌-◌, ◌≤◌, ◌≡◌, length}
use Rattle.lists.specs.Whole.{most_listed}
use Rattle.list_cases.proofs.list.pieces.Given as goal

abbrev pub invariant-loop-at : goal.invariant-loop-at
invariant-loop-at l = (l.at ≤ length l.s) × (l.tally.steps ≤ l.at) × (l.tally.pieces ≤ l.at) × (length l.steps ≡ most_listed)

abbrev pub decreases-loop-at : goal.decreases-loop-at
decreases-loop-at l = length l.s - l.at
