-- The events of a list of steps, read off the steps' own answers (clause S19.6 of docs/SCOPE.md): operations begun, entries chosen,
-- operations finished. Assumes nothing.
use Rattle.std.specs.Prelude.{ℕ, ◌-◌, List, [], ◌∷◌}
use Rattle.promise.specs.Names.{Answer, Ending, Entry, Err, Held, Message, Ok, Outcome, Reading, Run, Step}
use Rattle.run.specs.Steps.{step_of, client_at, slot_at}

-- S19.5: what an operation is
pub data Kind : Type 0 where
  write read : Kind

-- S19.7: what an operation is begun for: a write has the reading that is to be written
pub data Aim : Type 0 where
  writes : Reading → Aim
  reads : Aim

-- S19.7: its kind
abbrev pub kind_of : Aim → Kind
kind_of (writes r) = write
kind_of reads = read

-- S19.3 to S19.5: with the client, counted from 0 as in a run (the writer of its stamps is one more), and its operation number
pub data Event : Type 0 where
  nothing : Event
  begun : ℕ → ℕ → Aim → Event
  chosen : ℕ → ℕ → Entry → Event
  finished : ℕ → ℕ → Kind → Entry → Event

-- S6.1: outcome begun: the client that the step names, under the operation number that it has after the step
abbrev pub beginning : Step → Run → Event
beginning Step.Other after = nothing
beginning (Step.Write c r) after = begun (c - 1) (client_at after (c - 1)).operation (writes r)
beginning (Step.Read c) after = begun (c - 1) (client_at after (c - 1)).operation reads
beginning (Step.Send c k) after = nothing
beginning (Step.Deliver j) after = nothing
beginning (Step.Lose j) after = nothing
beginning (Step.Stop k) after = nothing
beginning (Step.Leave c) after = nothing
beginning (Step.Restart k) after = nothing
beginning (Step.Rollback k j) after = nothing

-- S8.5, S8.7: a part ended: the client and operation number are those of the reply that stood in the slot
abbrev pub ending : Ending → Message → Entry → Event
ending Ending.Chosen m e = chosen m.client m.operation e
ending Ending.Found m e = nothing
ending Ending.Written m e = finished m.client m.operation write e
ending Ending.Read m e = finished m.client m.operation read e

-- S8.1: of what stood in the slot
abbrev pub ending_in : Ending → Held → Entry → Event
ending_in how Held.Empty e = nothing
ending_in how (Held.Request m) e = nothing
ending_in how (Held.Reply m) e = ending how m e

-- S19.6: the event of an outcome
abbrev pub outcome_event : Run → Step → Run → Outcome → Event
outcome_event run s after Outcome.Begun = beginning s after
outcome_event run s after (Outcome.Sent j) = nothing
outcome_event run s after (Outcome.Answered j) = nothing
outcome_event run s after (Outcome.Unanswered j) = nothing
outcome_event run s after (Outcome.Discarded j) = nothing
outcome_event run s after (Outcome.Counted j) = nothing
outcome_event run s after (Outcome.Ended how j e) = ending_in how (slot_at run (j - 1)).held e
outcome_event run s after (Outcome.Lost j) = nothing
outcome_event run s after Outcome.Stopped = nothing
outcome_event run s after Outcome.Left = nothing
outcome_event run s after Outcome.Restarted = nothing
outcome_event run s after Outcome.RolledBack = nothing

-- S19.6: the event of an answer; a refusal has none
abbrev pub answer_event : Run → Step → Run → Answer → Event
answer_event run s after (Err why) = nothing
answer_event run s after (Ok o) = outcome_event run s after o

-- S19.6: the event of one step
unfoldable pub event : Run → Step → Event
event run s = answer_event run s (step_of run s).run (step_of run s).answer

-- S19.6: of each step of a list: event number i is that of step number i
abbrev pub events : Run → List Step → List Event
events run [] = []
events run (s ∷ ss) = event run s ∷ events (step_of run s).run ss
