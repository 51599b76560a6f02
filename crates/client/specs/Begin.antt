-- A client begins an operation, sends a request, or leaves: clauses S6, S9.3 and S12.4 to S12.7 of docs/SCOPE.md.
use Rattle.std.specs.Prelude.{ℕ, ◌+◌, cond, leb}
use Rattle.limits.specs.Limits.{most_slots}
use Rattle.client.specs.Names.{Body, Change, Client, Decision, Entry, Held, Message, Outcome, Refusal, Slot, Standing, Work}
use Rattle.cabinet.specs.Entries.{factory_entry}
use Rattle.heard.specs.Heard.{none_heard}

-- S4.3: idle, gone, or with an operation open
abbrev pub standing_of : Work → Standing
standing_of Work.Idle = Standing.Free
standing_of Work.Gone = Standing.Away
standing_of (Work.FirstWrite r) = Standing.Busy
standing_of Work.FirstRead = Standing.Busy
standing_of Work.SecondWrite = Standing.Busy
standing_of Work.SecondRead = Standing.Busy

-- S4.3: the part that is open, 0 where none is
abbrev pub part_of : Work → ℕ
part_of Work.Idle = 0
part_of Work.Gone = 0
part_of (Work.FirstWrite r) = 1
part_of Work.FirstRead = 1
part_of Work.SecondWrite = 2
part_of Work.SecondRead = 2

-- S6.1: the next number, the first part, no cabinet heard
abbrev pub opened : Client → Work → Client
opened c w = record { operation = c.operation + 1; work = w; heard = none_heard; best = factory_entry }

-- S6.1: an idle client begins; S12.4, S12.5: one that is gone or busy is refused
abbrev pub begins_by : Standing → ℕ → Client → Work → Decision
begins_by Standing.Free i c w = Decision.Yes Outcome.Begun (Change.OfClient i (opened c w))
begins_by Standing.Away i c w = Decision.No Refusal.HasLeft
begins_by Standing.Busy i c w = Decision.No Refusal.NotIdle

-- S6.1: a write or a read begins; S2.6: any client, any reading
unfoldable pub begins_of : ℕ → Client → Work → Decision
begins_of i c w = begins_by (standing_of c.work) i c w

-- S6.4: a first part asks, a second part offers; no other sends
abbrev pub request_body : Work → Entry → Body
request_body Work.Idle e = Body.Acknowledge
request_body Work.Gone e = Body.Acknowledge
request_body (Work.FirstWrite r) e = Body.AskStamp
request_body Work.FirstRead e = Body.AskEntry
request_body Work.SecondWrite e = Body.Offer e
request_body Work.SecondRead e = Body.Offer e

-- S6.3: what every request says
abbrev pub request_of : ℕ → ℕ → Client → Message
request_of i k c =
    record { operation = c.operation; client = i; part = part_of c.work; cabinet = k; body = request_body c.work c.best }

-- S6.2: the request as it stands in a slot
abbrev pub request_slot : ℕ → ℕ → Client → Slot
request_slot i k c = record { held = Held.Request (request_of i k c) }

-- S6.2: into the lowest free slot; S12.4, S12.6, S12.7: gone, idle, no slot free, for which 64 stands
abbrev pub sends_by : Standing → ℕ → ℕ → Client → ℕ → Decision
sends_by Standing.Free i k c free = Decision.No Refusal.IsIdle
sends_by Standing.Away i k c free = Decision.No Refusal.HasLeft
sends_by Standing.Busy i k c free = cond (leb most_slots free) (Decision.No Refusal.Full) (Decision.Yes (Outcome.Sent (free + 1)) (Change.OfSlot free (request_slot i k c)))

-- S6.2: a send; S6.5: what was sent or heard before is not asked
unfoldable pub sends_of : ℕ → ℕ → Client → ℕ → Decision
sends_of i k c free = sends_by (standing_of c.work) i k c free

-- S9.3: what was open is dropped, and nothing opens again
abbrev pub gone : Client → Client
gone c = record { operation = c.operation; work = Work.Gone; heard = none_heard; best = factory_entry }

-- S9.3: the client alone changes, S9.4: so that its messages stay
abbrev pub leaving : ℕ → Client → Decision
leaving i c = Decision.Yes Outcome.Left (Change.OfClient i (gone c))

-- S9.3: idle or busy, it may leave; S12.4: not twice
abbrev pub leaves_by : Standing → ℕ → Client → Decision
leaves_by Standing.Free i c = leaving i c
leaves_by Standing.Away i c = Decision.No Refusal.HasLeft
leaves_by Standing.Busy i c = leaving i c

-- S9.3: a leave
unfoldable pub leaves_of : ℕ → Client → Decision
leaves_of i c = leaves_by (standing_of c.work) i c
