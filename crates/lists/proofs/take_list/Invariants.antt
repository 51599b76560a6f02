-- The loop of `take_list`: i steps are taken, and their numbers stand in front.
use Rattle.lists.proofs.ListLaws.{Going}
use Rattle.lists.proofs.take_list.Given as goal

abbrev pub invariant-loop-i : goal.invariant-loop-i
invariant-loop-i l = Going l.initial.run l.steps l.initial.answers l.i l.run l.answers
