-- A step leaves an undamaged run undamaged. Assumes nothing.
use Rattle.transcript.proofs.AnswerLaws.{step_keeps}
use Rattle.transcript.proofs.Rehearsal.step_row.Goals as goal

pub invariant_of-self : goal.invariant_of-self
invariant_of-self c = record { sound = step_keeps _ _ _ _ _ c.requires.due c.args.self.now.sound c.go-answer.ensures }
