-- The bytes passed are held. Assumes nothing.
use Rattle.std.proofs.Common.{◌≡◌, take}
use Rattle.transcript.specs.Machine.{mach_of, run_m}
use Rattle.transcript.proofs.Rehearsal.hold.Given as goal

abbrev pub invariant-loop-b : goal.invariant-loop-b
invariant-loop-b l = record {
  state : mach_of l.self ≡ run_m (mach_of l.initial.self) (take l.b-index l.s);
  same : l.self.row ≡ l.initial.self.row;
}
