-- A reply reaches its client: clauses S8.1 to S8.8 of docs/SCOPE.md.
use Rattle.std.specs.Prelude.{ℕ, ◌+◌, Bool, cond, not, ◌&&◌, eqb, leb}
use Rattle.client.specs.Names.{Body, Change, Client, Decision, Ending, Entry, Heard, Message, None, Option, Outcome, Plan, Reading, Some, Told, Work}
use Rattle.cabinet.specs.Entries.{factory_entry, takes}
use Rattle.heard.specs.Heard.{none_heard, has_of, with_of, count_of}
use Rattle.types.specs.Parts.{empty_slot}
use Rattle.client.specs.Begin.{part_of}

-- S8.2: what a body says to a write's first part: a stamp, or nothing
abbrev pub told_stamp : Reading → Body → Option Told
told_stamp r Body.AskStamp = None
told_stamp r Body.AskEntry = None
told_stamp r (Body.Offer e) = None
told_stamp r (Body.TellStamp s) = Some (Told.OfWrite r (record { stamp = s; reading = Reading.Unknown }))
told_stamp r (Body.TellEntry e) = None
told_stamp r Body.Acknowledge = None

-- S8.2: to a read's first part: an entry, or nothing
abbrev pub told_entry : Body → Option Told
told_entry Body.AskStamp = None
told_entry Body.AskEntry = None
told_entry (Body.Offer e) = None
told_entry (Body.TellStamp s) = None
told_entry (Body.TellEntry e) = Some (Told.OfRead e)
told_entry Body.Acknowledge = None

-- S8.2: to a second part: an acknowledgement, or nothing
abbrev pub told_taken : Option Told → Body → Option Told
told_taken t Body.AskStamp = None
told_taken t Body.AskEntry = None
told_taken t (Body.Offer e) = None
told_taken t (Body.TellStamp s) = None
told_taken t (Body.TellEntry e) = None
told_taken t Body.Acknowledge = t

-- S8.2: to the part that is open; to a client that is idle or gone, nothing
abbrev pub told_by : Work → Body → Option Told
told_by Work.Idle b = None
told_by Work.Gone b = None
told_by (Work.FirstWrite r) b = told_stamp r b
told_by Work.FirstRead b = told_entry b
told_by Work.SecondWrite b = told_taken (Some Told.Wrote) b
told_by Work.SecondRead b = told_taken (Some Told.ReadBack) b

-- S8.2: its number and part are open, and its cabinet was not heard in this part
abbrev pub awaits : Client → Message → Bool
awaits c m = eqb c.operation m.operation && (eqb (part_of c.work) m.part && not (has_of c.heard m.cabinet))

-- S8.2: what a reply says, or nothing where it is not awaited; S8.8: its cabinet is not looked at
unfoldable pub told_of : Client → Message → Option Told
told_of c m = cond (awaits c m) (told_by c.work m.body) None

-- S8.6: the greatest heard, the first of equal ones; the very first is taken whatever its stamp
unfoldable pub best_of : ℕ → Entry → Entry → Entry
best_of heard best e = cond (eqb heard 1) e (cond (takes best e) e best)

-- S8.5: one above the greatest counter heard, the client's number, and the reading to be written
abbrev pub chosen_by : ℕ → Entry → Reading → Entry
chosen_by i best r = record { stamp = record { counter = best.stamp.counter + 1; writer = i + 1 }; reading = r }

-- S8.2: of no use; S8.1: the slot is emptied
abbrev pub discarded : ℕ → Decision
discarded j = Decision.Yes (Outcome.Discarded (j + 1)) (Change.OfSlot j empty_slot)

-- S8.3: one voice more, and the part goes on
abbrev pub counted : ℕ → ℕ → Client → Heard → Entry → Decision
counted i j c heard best =
    Decision.Yes (Outcome.Counted (j + 1)) (Change.Hearing i (record { operation = c.operation; work = c.work; heard = heard; best = best }) j)

-- S8.4: the part ends here and now, and the next one has heard no cabinet
abbrev pub ended : ℕ → ℕ → ℕ → Ending → Entry → Work → Entry → Decision
ended i j operation how shown next best =
    Decision.Yes (Outcome.Ended how (j + 1) shown) (Change.Hearing i (record { operation = operation; work = next; heard = none_heard; best = best }) j)

-- S8.4, S8.5: a write has heard a read quorum, and chooses
unfoldable pub first_write : Plan → ℕ → ℕ → Client → Heard → Reading → Entry → Decision
first_write plan i j c heard r best =
    cond (leb plan.read (count_of heard))
    (ended i j c.operation Ending.Chosen (chosen_by i best r) Work.SecondWrite (chosen_by i best r)) (counted i j c heard best)

-- S8.4, S8.6: a read has heard a read quorum, and has found
unfoldable pub first_read : Plan → ℕ → ℕ → Client → Heard → Entry → Decision
first_read plan i j c heard best =
    cond (leb plan.read (count_of heard)) (ended i j c.operation Ending.Found best Work.SecondRead best) (counted i j c heard best)

-- S8.4, S8.7: a write quorum has acknowledged, and the operation is finished
unfoldable pub second : Plan → ℕ → ℕ → Client → Heard → Ending → Decision
second plan i j c heard how =
    cond (leb plan.write (count_of heard)) (ended i j c.operation how c.best Work.Idle factory_entry) (counted i j c heard c.best)

-- S8.2, S8.3: by what the reply says
abbrev pub hear_by : Option Told → Plan → ℕ → ℕ → Client → Heard → Decision
hear_by None plan i j c heard = discarded j
hear_by (Some (Told.OfWrite r e)) plan i j c heard = first_write plan i j c heard r (best_of (count_of heard) c.best e)
hear_by (Some (Told.OfRead e)) plan i j c heard = first_read plan i j c heard (best_of (count_of heard) c.best e)
hear_by (Some Told.Wrote) plan i j c heard = second plan i j c heard Ending.Written
hear_by (Some Told.ReadBack) plan i j c heard = second plan i j c heard Ending.Read

-- S8.1: client i hears the message of slot j, which is emptied
unfoldable pub hears_of : Plan → ℕ → Client → Message → Decision
hears_of plan j c m = hear_by (told_of c m) plan m.client j c (with_of c.heard m.cabinet)

-- S8.5: the counter that a body tells
abbrev pub told_counter : Body → ℕ
told_counter Body.AskStamp = 0
told_counter Body.AskEntry = 0
told_counter (Body.Offer e) = e.stamp.counter
told_counter (Body.TellStamp s) = s.counter
told_counter (Body.TellEntry e) = e.stamp.counter
told_counter Body.Acknowledge = 0
