-- The bytes passed are answered. Assumes nothing.
use Rattle.std.proofs.Common.{◌≡◌, ◌≤◌, ◌+◌, ◌*◌, take}
use Rattle.print.specs.Put.{Wrote}
use Rattle.print.specs.Rows.{room}
use Rattle.transcript.specs.Machine.{mach_of, run_m, say_all}
use Rattle.transcript.proofs.Rehearsal.lead.Given as goal

abbrev pub invariant-loop-i : goal.invariant-loop-i
invariant-loop-i l = record {
  state : mach_of l.self ≡ run_m (mach_of l.initial.self) (take l.i l.s);
  said : Wrote l.initial.out l.at (say_all (mach_of l.initial.self) (take l.i l.s)) l.out l.end;
  most : l.end ≤ l.at + room * l.i;
  rows : l.self.row ≤ l.initial.self.row + l.i;
}
