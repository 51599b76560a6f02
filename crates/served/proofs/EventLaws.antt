-- What is read off a lent answer and the desk's own run is the event of the run behind the table: events do not look at cabinets.
-- Assumes nothing.
use mathlib.Core.Path.{◌≡◌, refl, ap₂, ◌∙◌}
use mathlib.Core.List.{List}
use lib.ListN.{length}
use Rattle.served.specs.Names.{Answer, Cabinet, Err, Lent, Ok, Outcome, Run, Step}
use Rattle.run.specs.Steps.{client_at, slot_at, step_of}
use Rattle.desk.specs.Desk.{with_cabinets, with_records}
use Rattle.desk.proofs.DeskLaws.{as_step}
use Rattle.promise.specs.Events.{beginning, outcome_event, answer_event, event}
use Rattle.served.specs.Served.{lent_event_by, lent_event}

module _ (after : Run) (own : List Cabinet) where
  begun_same : (s : Step) → beginning s (with_cabinets after own) ≡ beginning s after
  unfolding client_at with_cabinets
  begun_same Step.Other = refl
  begun_same (Step.Write c r) = refl
  begun_same (Step.Read c) = refl
  begun_same (Step.Send c k) = refl
  begun_same (Step.Deliver j) = refl
  begun_same (Step.Lose j) = refl
  begun_same (Step.Stop k) = refl
  begun_same (Step.Leave c) = refl
  begun_same (Step.Restart k) = refl
  begun_same (Step.Rollback k j) = refl

  module _ (run : Run) (l : List Cabinet) (s : Step) where
    outcome_same : (o : Outcome) → outcome_event run s (with_cabinets after own) o ≡ outcome_event (with_cabinets run l) s after o
    unfolding slot_at with_cabinets
    outcome_same Outcome.Begun = begun_same s
    outcome_same (Outcome.Sent j) = refl
    outcome_same (Outcome.Answered j) = refl
    outcome_same (Outcome.Unanswered j) = refl
    outcome_same (Outcome.Discarded j) = refl
    outcome_same (Outcome.Counted j) = refl
    outcome_same (Outcome.Ended how j e) = refl
    outcome_same (Outcome.Lost j) = refl
    outcome_same Outcome.Stopped = refl
    outcome_same Outcome.Left = refl
    outcome_same Outcome.Restarted = refl
    outcome_same Outcome.RolledBack = refl

    answer_same : (a : Answer) → answer_event run s (with_cabinets after own) a ≡ answer_event (with_cabinets run l) s after a
    answer_same (Err why) = refl
    answer_same (Ok o) = outcome_same o

pub event_same : (run : Run) (table : List Cabinet) (s : Step) → length table ≡ run.plan.n
    → lent_event run table s ≡ event (with_records run table) s
unfolding lent_event event with_records with_cabinets
event_same run table s same =
    let z = as_step run table s same in
    let behind : Run = with_records run table in
    ap₂ (λ (a : Lent) (r : Run). lent_event_by a run s r) z.0 z.1
    ∙ answer_same (step_of behind s).run run.cabinets run behind.cabinets s (step_of behind s).answer
