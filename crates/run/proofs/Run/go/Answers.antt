-- A damaged run is answered so. Assumes nothing.
use Rattle.std.proofs.Common.{arith}
use Rattle.run.proofs.FrameLaws.{step_damaged}
use Rattle.run.proofs.Run.go.Goals as goal

pub returns-then-not-sound : goal.returns-then-not-sound
returns-then-not-sound c = grind (arith, step_damaged)
