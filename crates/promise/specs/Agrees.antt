-- The event that each outcome word of a rehearsal has, by client, number and kind: clause S19.6 of docs/SCOPE.md. Assumes nothing.
use Rattle.std.specs.Prelude.{ℕ, ◌+◌, ◌-◌, ◌≡◌}
use Rattle.promise.specs.Names.{Answer, Ending, Err, Held, Message, Ok, Outcome, Run, Step}
use Rattle.run.specs.Steps.{client_at, slot_at}
use Rattle.promise.specs.Events.{write, read, Aim, writes, reads, Event, nothing, begun, chosen, finished}

-- S6.1: s asks client c, counted from 0, to begin
abbrev pub Asks : Step → ℕ → Aim → Type 0
Asks s c (writes r) = s ≡ Step.Write (c + 1) r
Asks s c reads = s ≡ Step.Read (c + 1)

-- S8.1: slot j, counted from 1, holds the reply m
abbrev pub Holds : Run → ℕ → Message → Type 0
Holds run j m = (slot_at run (j - 1)).held ≡ Held.Reply m

-- S19.6: the event that an outcome word has: an operation begun is the client's that the step asks, under the number that it has
-- afterwards; one that goes on is that of the reply in the slot
abbrev pub Has : Run → Step → Run → Outcome → Event → Type 0
Has run s after Outcome.Begun x = (c : ℕ) × (q : Aim) × Asks s c q × (x ≡ begun c (client_at after c).operation q)
Has run s after (Outcome.Sent j) x = x ≡ nothing
Has run s after (Outcome.Answered j) x = x ≡ nothing
Has run s after (Outcome.Unanswered j) x = x ≡ nothing
Has run s after (Outcome.Discarded j) x = x ≡ nothing
Has run s after (Outcome.Counted j) x = x ≡ nothing
Has run s after (Outcome.Ended Ending.Chosen j e) x = (m : Message) × Holds run j m × (x ≡ chosen m.client m.operation e)
Has run s after (Outcome.Ended Ending.Found j e) x = x ≡ nothing
Has run s after (Outcome.Ended Ending.Written j e) x = (m : Message) × Holds run j m × (x ≡ finished m.client m.operation write e)
Has run s after (Outcome.Ended Ending.Read j e) x = (m : Message) × Holds run j m × (x ≡ finished m.client m.operation read e)
Has run s after (Outcome.Lost j) x = x ≡ nothing
Has run s after Outcome.Stopped x = x ≡ nothing
Has run s after Outcome.Left x = x ≡ nothing
Has run s after Outcome.Restarted x = x ≡ nothing
Has run s after Outcome.RolledBack x = x ≡ nothing

-- S19.6: the event that an answer has
abbrev pub Agrees : Run → Step → Run → Answer → Event → Type 0
Agrees run s after (Err why) x = x ≡ nothing
Agrees run s after (Ok o) x = Has run s after o x
