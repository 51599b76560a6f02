-- What all turns read and wrote, and the input's end. Assumes nothing.
use Rattle.std.proofs.Common.{ap}
use Rattle.transcript.specs.declared.Rehearsal.{Rehearsal}
use Rattle.transcript.specs.Machine.{mach_of}
use Rattle.stream.proofs.Moving.{rehearsed}
use Rattle.stream.proofs.all_bytes.Goals as goal

pub returns : goal.returns
returns g c =
    rehearsed _ _ _ _ _ _ _ _ _ _ c.write_all.result (ap (λ (r : Rehearsal). mach_of r) c.new-rehearsal.ensures) c.in_ok-all_turns.ensures.turned c.finish-end.ensures.out
    c.finish-end.ensures.end.0 c.write_all.ensures.bytes
