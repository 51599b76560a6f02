-- What an undamaged run's parts are like: clauses S13.4 to S13.14 of docs/SCOPE.md. What is not tested here is no damage (S13.16).
use Rattle.std.specs.Prelude.{ℕ, Bool, true, false, cond, not, ◌&&◌, ◌||◌, ltb, leb, eqb}
use Rattle.limits.specs.Limits.{most_clients, most_versions}
use Rattle.guard.specs.Names.{Body, Cabinet, Client, Entry, Heard, Held, Message, Plan, Power, Slot, Stamp, Work}
use Rattle.cabinet.specs.Entries.{reading_in, is_factory}
use Rattle.heard.specs.Heard.{count_of, within_of}
use Rattle.types.specs.Parts.{stored_in}
use Rattle.guard.specs.All.{all_from}

-- S13.4, S13.6: no counter above the accepted steps, and a writer that there is
unfoldable pub stamp_sound : ℕ → Stamp → Bool
stamp_sound steps s = leb s.counter steps && leb s.writer most_clients

-- S13.7: an entry with such a stamp, and its minutes in range
unfoldable pub entry_sound : ℕ → Entry → Bool
entry_sound steps e = stamp_sound steps e.stamp && reading_in e.reading

-- ---- messages

-- S13.9: a request in part 1 asks
abbrev pub request_first : Body → Bool
request_first Body.AskStamp = true
request_first Body.AskEntry = true
request_first (Body.Offer e) = false
request_first (Body.TellStamp s) = false
request_first (Body.TellEntry e) = false
request_first Body.Acknowledge = false

-- S13.9: a request in part 2 offers
abbrev pub request_second : ℕ → Body → Bool
request_second steps Body.AskStamp = false
request_second steps Body.AskEntry = false
request_second steps (Body.Offer e) = entry_sound steps e
request_second steps (Body.TellStamp s) = false
request_second steps (Body.TellEntry e) = false
request_second steps Body.Acknowledge = false

-- S13.10: a reply in part 1 tells a stamp or an entry
abbrev pub reply_first : ℕ → Body → Bool
reply_first steps Body.AskStamp = false
reply_first steps Body.AskEntry = false
reply_first steps (Body.Offer e) = false
reply_first steps (Body.TellStamp s) = stamp_sound steps s
reply_first steps (Body.TellEntry e) = entry_sound steps e
reply_first steps Body.Acknowledge = false

-- S13.10: a reply in part 2 acknowledges
abbrev pub reply_second : Body → Bool
reply_second Body.AskStamp = false
reply_second Body.AskEntry = false
reply_second (Body.Offer e) = false
reply_second (Body.TellStamp s) = false
reply_second (Body.TellEntry e) = false
reply_second Body.Acknowledge = true

-- S13.8, S13.9: part 1 or 2, and a body of that part
unfoldable pub request_sound : ℕ → ℕ → Body → Bool
request_sound steps part b = cond (eqb part 1) (request_first b) (eqb part 2 && request_second steps b)

-- S13.8, S13.10: the same of a reply
unfoldable pub reply_sound : ℕ → ℕ → Body → Bool
reply_sound steps part b = cond (eqb part 1) (reply_first steps b) (eqb part 2 && reply_second b)

-- S13.5, S13.8: no operation number above the accepted steps, a client and a cabinet that there are
unfoldable pub address_sound : ℕ → ℕ → Message → Bool
address_sound n steps m = leb m.operation steps && (ltb m.client most_clients && ltb m.cabinet n)

-- S13.8: of what a slot holds
abbrev pub held_sound : ℕ → ℕ → Held → Bool
held_sound n steps Held.Empty = true
held_sound n steps (Held.Request m) = address_sound n steps m && request_sound steps m.part m.body
held_sound n steps (Held.Reply m) = address_sound n steps m && reply_sound steps m.part m.body

-- S13.8: of a slot
unfoldable pub slot_sound : ℕ → ℕ → ℕ → Slot → Bool
slot_sound n steps j t = held_sound n steps t.held

-- ---- cabinets

-- S13.13: a place past the versions kept has the factory entry
unfoldable pub version_sound : ℕ → ℕ → ℕ → Entry → Bool
version_sound steps kept i e = entry_sound steps e && (ltb i kept || is_factory e)

-- S13.11: one to eight versions, and one alone without a store
unfoldable pub kept_sound : Bool → ℕ → Bool
kept_sound stored kept = leb 1 kept && (leb kept most_versions && (stored || eqb kept 1))

-- S13.11, S13.13: of a record
unfoldable pub record_sound : ℕ → Bool → Cabinet → Bool
record_sound steps stored k = kept_sound stored k.kept && all_from (version_sound steps k.kept) 0 k.versions

-- S13.12: up and not stale
abbrev pub is_up : Power → Bool
is_up Power.Down = false
is_up Power.Up = true
is_up Power.Stale = false

-- S13.12: the factory entry, at any place
abbrev pub factory_at : ℕ → Entry → Bool
factory_at i e = is_factory e

-- S13.12: a fresh cabinet
unfoldable pub is_fresh : Cabinet → Bool
is_fresh k = eqb k.kept 1 && (is_up k.power && (not k.marked && all_from factory_at 0 k.versions))

-- S13.11, S13.12: of a record up to n, and past it
unfoldable pub cabinet_sound : Plan → ℕ → ℕ → Cabinet → Bool
cabinet_sound plan steps i k = cond (ltb i plan.n) (record_sound steps (stored_in plan i) k) (is_fresh k)

-- ---- clients

-- S13.14: only cabinets of the line, and fewer than the quorum
unfoldable pub heard_sound : ℕ → ℕ → Heard → Bool
heard_sound n quorum h = within_of h n && ltb (count_of h) quorum

-- S13.14: of the part that is open; S13.7: and of the reading to be written
abbrev pub work_sound : Plan → Heard → Work → Bool
work_sound plan h Work.Idle = true
work_sound plan h Work.Gone = true
work_sound plan h (Work.FirstWrite r) = reading_in r && heard_sound plan.n plan.read h
work_sound plan h Work.FirstRead = heard_sound plan.n plan.read h
work_sound plan h Work.SecondWrite = heard_sound plan.n plan.write h
work_sound plan h Work.SecondRead = heard_sound plan.n plan.write h

-- S13.5: of a client
unfoldable pub client_sound : Plan → ℕ → ℕ → Client → Bool
client_sound plan steps i c = leb c.operation steps && (entry_sound steps c.best && work_sound plan c.heard c.work)
