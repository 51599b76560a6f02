-- What is so of the run in each phase.
use Rattle.std.specs.Prelude.{Bool, true}
use Rattle.run.specs.declared.Run.{Run}
use Rattle.run.specs.Undamaged.{undamaged}
use Rattle.transcript.specs.declared.Phase.{Phase}

-- where steps are due, the run is undamaged: so that no step is checked again
abbrev pub sound_in : Phase → Run → Bool
sound_in Phase.Header run = true
sound_in Phase.Planning run = true
sound_in Phase.Running run = undamaged run
sound_in Phase.Ended run = true
