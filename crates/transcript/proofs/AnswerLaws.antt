-- What an answered row leaves: a sound run where steps are due, and the machine's state. Assumes nothing.
use mathlib.Core.Bool.{true}
use mathlib.Core.List.{append-nil}
use mathlib.Core.Path.{◌≡◌, ◌∙◌, ap}
use Rattle.run.specs.Steps.{step_of}
use Rattle.run.specs.Undamaged.{undamaged}
use Rattle.run.proofs.UndamagedLaws.{step_undamaged, start_undamaged}
use Rattle.print.proofs.PutLaws.{put_none, after}
use Rattle.transcript.specs.Names.{Answer, Phase, Run, Step, Stepped}
use Rattle.transcript.specs.Phases.{sound_in}
use Rattle.transcript.proofs.MachineLaws.{heads_fit, held_none}
use Rattle.transcript.proofs.RowLaws.{asked_run, asked_say}
use Rattle.transcript.proofs.WholeLaws.{start_sound}

pub step_keeps : (p : Phase) (a : Answer) (run run' : Run) (s : Step) → p ≡ Phase.Running → sound_in p run ≡ true
    → ◌≡◌ {A = Stepped} (record { answer = a; run = run' }) (step_of run s) → sound_in p run' ≡ true
step_keeps p a run run' s due sound e =
    rw due (ap (λ (x : Stepped). undamaged x.run) e ∙ step_undamaged run s (rw due at sound))

pub ruleset in_answers = (append-nil, start_undamaged, put_none, held_none, asked_run, asked_say, start_sound)
