-- `by_kind` meets its contract: what was let in has its place in the run, and each arm is the step of its kind. Assumes nothing.
use Rattle.std.proofs.Common.{arith}
use Rattle.run.specs.Steps.{decide_of, go_of}
use Rattle.run.proofs.GoLaws.{let_in}
use Rattle.run.proofs.Run.by_kind.Goals as goal

pub returns-in_err-c : goal.returns-in_err-c
unfolding go_of decide_of
returns-in_err-c c = grind (arith, let_in)

pub begin-requires-clause-place : goal.begin-requires-clause-place
begin-requires-clause-place c = grind (arith, let_in)

pub returns-in-Begins : goal.returns-in-Begins
unfolding go_of
returns-in-Begins c = grind (arith, let_in)

pub leave-requires-clause-place : goal.leave-requires-clause-place
leave-requires-clause-place c = grind (arith, let_in)

pub returns-in-Leaves : goal.returns-in-Leaves
unfolding go_of
returns-in-Leaves c = grind (arith, let_in)

pub send-requires-clause-place : goal.send-requires-clause-place
send-requires-clause-place c = grind (arith, let_in)

pub returns-in-Sends : goal.returns-in-Sends
unfolding go_of
returns-in-Sends c = grind (arith, let_in)

pub deliver-requires-clause-place : goal.deliver-requires-clause-place
deliver-requires-clause-place c = grind (arith, let_in)

pub returns-in-Delivers : goal.returns-in-Delivers
unfolding go_of
returns-in-Delivers c = grind (arith, let_in)

pub lose-requires-clause-place : goal.lose-requires-clause-place
lose-requires-clause-place c = grind (arith, let_in)

pub returns-in-Loses : goal.returns-in-Loses
unfolding go_of
returns-in-Loses c = grind (arith, let_in)

pub stop-requires-clause-place : goal.stop-requires-clause-place
stop-requires-clause-place c = grind (arith, let_in)

pub returns-in-Stops : goal.returns-in-Stops
unfolding go_of
returns-in-Stops c = grind (arith, let_in)

pub restart-requires-clause-place : goal.restart-requires-clause-place
restart-requires-clause-place c = grind (arith, let_in)

pub returns-in-Restarts : goal.returns-in-Restarts
unfolding go_of
returns-in-Restarts c = grind (arith, let_in)

pub roll_back-requires-clause-place : goal.roll_back-requires-clause-place
roll_back-requires-clause-place c = grind (arith, let_in)

pub returns-in-RollsBack : goal.returns-in-RollsBack
unfolding go_of
returns-in-RollsBack c = grind (arith, let_in)
