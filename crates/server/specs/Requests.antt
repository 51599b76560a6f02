-- A request reaches its cabinet: clauses S7.1 to S7.7 of docs/SCOPE.md; and what the small answer stands for.
use Rattle.std.specs.Prelude.{ℕ, ◌+◌, Bool, true, false, cond}
use Rattle.server.specs.Names.{Back, Body, Change, Decision, Held, Message, Outcome, Power, Sight, Slot}
use Rattle.types.specs.Parts.{empty_slot}

-- S7.3: the reply says of whom and to whom as the request did
abbrev pub reply_slot : Message → Body → Slot
reply_slot m b =
    record { held = Held.Reply (record { operation = m.operation; client = m.client; part = m.part; cabinet = m.cabinet; body = b }) }

-- S7.1, S7.2: the slot is emptied
abbrev pub unanswered : ℕ → Decision
unanswered j = Decision.Yes (Outcome.Unanswered (j + 1)) (Change.OfSlot j empty_slot)

-- S7.3: the reply in place of the request
abbrev pub answered : ℕ → Message → Body → Decision
answered j m b = Decision.Yes (Outcome.Answered (j + 1)) (Change.OfSlot j (reply_slot m b))

-- a cabinet that is not down: S7.4 it tells, S7.2 unless it is stale; S7.6 it acknowledges an offer, stale or not
abbrev pub answers_by : Body → Bool → ℕ → Message → Sight → Decision
answers_by Body.AskStamp stale j m k = cond stale (unanswered j) (answered j m (Body.TellStamp k.present.stamp))
answers_by Body.AskEntry stale j m k = cond stale (unanswered j) (answered j m (Body.TellEntry k.present))
answers_by (Body.Offer e) stale j m k =
    Decision.Yes (Outcome.Answered (j + 1)) (Change.Offering m.cabinet e j (reply_slot m Body.Acknowledge))
answers_by (Body.TellStamp s) stale j m k = unanswered j
answers_by (Body.TellEntry e) stale j m k = unanswered j
answers_by Body.Acknowledge stale j m k = unanswered j

-- S7.1: one that is down says nothing
abbrev pub answers_when : Power → ℕ → Message → Sight → Decision
answers_when Power.Down j m k = unanswered j
answers_when Power.Up j m k = answers_by m.body false j m k
answers_when Power.Stale j m k = answers_by m.body true j m k

-- S7.7: the request and the cabinet are all that is looked at
unfoldable pub answers_of : ℕ → Message → Sight → Decision
answers_of j m k = answers_when k.power j m k

-- no clause of its own: the request m of slot j reached its cabinet, as a small answer says
abbrev pub back_as : ℕ → Message → Back → Decision
back_as j m Back.Silent = unanswered j
back_as j m (Back.Says b) = answered j m b
back_as j m (Back.Weighs e) = Decision.Yes (Outcome.Answered (j + 1)) (Change.Offering m.cabinet e j (reply_slot m Body.Acknowledge))
