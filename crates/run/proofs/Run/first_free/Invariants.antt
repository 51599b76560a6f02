use Rattle.std.proofs.Common.{◌≡◌, drop}
use Rattle.run.specs.Names.{None}
use Rattle.run.specs.Gather.{first_from}
use Rattle.run.proofs.Run.first_free.Given as goal

abbrev pub invariant-loop-j : goal.invariant-loop-j
invariant-loop-j l = (l.free ≡ None) × (first_from 0 l.self.slots ≡ first_from l.j (drop l.j l.self.slots))
