-- `steps` meets its contract: what holds between two rows holds after each row, and at the end it is the contract. Assumes nothing.
use Rattle.std.proofs.Common.{arith}
use Rattle.turns.proofs.TakingLaws.{taking_none, taking_end}
use Rattle.turns.proofs.FoundLaws.{has_room, next_row, next}
use Rattle.turns.proofs.steps.Goals as goal

pub loop-found-init : goal.loop-found-init
loop-found-init c = taking_none _ _ _ _ _ c.requires.answers_fit c.requires.rows_fit c.requires.whole

pub put_step-requires : goal.put_step-requires
put_step-requires c = has_room _ _ _ c.find.ensures _ c.in-Some.is c.loop-found.invariant

pub overflow_add-went : goal.overflow_add-went
overflow_add-went c = omega (arith, next_row _ _ _ c.find.ensures _ c.in-Some.is c.loop-found.invariant)

pub loop-found-preserved : goal.loop-found-preserved
loop-found-preserved c =
    next _ _ _ c.find.ensures _ c.in-Some.is c.loop-found.invariant _ _ _ c.go-answer.ensures c.put_step.ensures.wrote c.put_step.ensures.upper_bound

pub returns : goal.returns
returns c = taking_end _ _ _ _ _ _ _ _ _ _ c.loop-found.invariant (grind arith)
