-- What the turns read and wrote, as far as they came; and their rows can be counted. Assumes nothing.
use Rattle.std.proofs.Common.{◌+◌, ◌*◌, ◌≤◌}
use Rattle.stream.specs.Buffers.{part_room}
use Rattle.stream.proofs.Moving.{Passed}
use Rattle.transcript.specs.Machine.{mach_of}
use Rattle.stream.proofs.all_turns.Given as goal

abbrev pub invariant-loop-turn : goal.invariant-loop-turn
invariant-loop-turn g l = record {
  turned : Passed (g.R.Read.remaining l.initial.input) (g.R.Read.remaining l.input) (g.W.Write.contents l.initial.output) (g.W.Write.contents l.output) (mach_of l.initial.rehearsal) (mach_of l.rehearsal);
  rows : (mach_of l.rehearsal).row ≤ 1 + part_room * l._turn;
}
