-- A turn goes on from what the turns before it read and wrote. Assumes nothing.
use Rattle.std.proofs.Common.{rules, arith, ap}
use Rattle.transcript.specs.declared.Rehearsal.{Rehearsal}
use Rattle.transcript.specs.Machine.{mach_of}
use Rattle.stream.proofs.Moving.{passed_none, passed_more, turned_more}
use Rattle.stream.proofs.all_turns.Goals as goal

pub loop-turn-init : goal.loop-turn-init
loop-turn-init g c = record { turned = passed_none _ _ _; rows = omega (arith, ap (λ (r : Rehearsal). (mach_of r).row) c.requires.first) }

pub returns-in_err-one_turn-clause-turned : goal.returns-in_err-one_turn-clause-turned
returns-in_err-one_turn-clause-turned g c =
    let last = c.in_err-one_turn.ensures.turned in
    turned_more _ _ _ _ _ _ _ _ _ c.from_residual.result c.loop-turn.invariant.turned (last.0, last.1, last.2, search rules)

pub loop-turn-preserved : goal.loop-turn-preserved
loop-turn-preserved g c = record {
  turned = passed_more _ _ _ _ _ _ _ _ _ c.loop-turn.invariant.turned c.in_ok-one_turn.ensures.turned;
  rows = omega arith;
}

pub returns-then-not-branch-clause-turned : goal.returns-then-not-branch-clause-turned
returns-then-not-branch-clause-turned g c = passed_more _ _ _ _ _ _ _ _ _ c.loop-turn.invariant.turned c.in_ok-one_turn.ensures.turned
