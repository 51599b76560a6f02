-- One step of a run: decide, put back. `step_of` is clauses S5 to S12 of docs/SCOPE.md, the published paper's static algorithm (S1.1).
use Rattle.std.specs.Prelude.{ℕ, ◌+◌, cond, List, get_or, set}
use Rattle.run.specs.Names.{Asked, Cabinet, Change, Client, Decision, Deed, Err, Held, Ok, Outcome, Plan, Refusal, Result, Run, Slot, Step, Stepped}
use Rattle.types.specs.Parts.{empty_slot, fresh_client, no_cabinet, sight_of}
use Rattle.admit.specs.Admit.{admit_of}
use Rattle.client.specs.Begin.{begins_of, sends_of, leaves_of}
use Rattle.client.specs.Hear.{hears_of}
use Rattle.server.specs.Deeds.{stops_when, rolls_of, deed_of}
use Rattle.server.specs.Requests.{answers_of}
use Rattle.run.specs.Gather.{first_from, others_from}
use Rattle.run.specs.Undamaged.{undamaged}

-- S1.3: the client at a place
unfoldable pub client_at : Run → ℕ → Client
client_at run i = get_or run.clients i fresh_client

-- S1.4: the slot at a place
unfoldable pub slot_at : Run → ℕ → Slot
slot_at run j = get_or run.slots j empty_slot

-- S1.2: the record at a place
unfoldable pub cabinet_at : Run → ℕ → Cabinet
cabinet_at run p = get_or run.cabinets p no_cabinet

-- ---- decide

-- S9.1: the slot is emptied
abbrev pub losing : ℕ → Decision
losing j = Decision.Yes (Outcome.Lost (j + 1)) (Change.OfSlot j empty_slot)

-- S9.1: whatever is lost; S12.8: something must be there
abbrev pub loses_by : Held → ℕ → Decision
loses_by Held.Empty j = Decision.No Refusal.NoMessage
loses_by (Held.Request m) j = losing j
loses_by (Held.Reply m) j = losing j

-- S7, S8: a request reaches its cabinet, a reply its client; S12.8: something must be there
abbrev pub delivers_in : Run → ℕ → Held → Decision
delivers_in run j Held.Empty = Decision.No Refusal.NoMessage
delivers_in run j (Held.Request m) = answers_of j m (sight_of (cabinet_at run m.cabinet))
delivers_in run j (Held.Reply m) = hears_of run.plan j (client_at run m.client) m

-- S5.1: each kind of step over the parts that it meets
unfoldable pub decide_of : Run → Result Asked Refusal → Decision
decide_of run (Err why) = Decision.No why
decide_of run (Ok (Asked.Begins i w)) = begins_of i (client_at run i) w
decide_of run (Ok (Asked.Leaves i)) = leaves_of i (client_at run i)
decide_of run (Ok (Asked.Sends i p)) = sends_of i p (client_at run i) (first_from 0 run.slots)
decide_of run (Ok (Asked.Delivers j)) = delivers_in run j (slot_at run j).held
decide_of run (Ok (Asked.Loses j)) = loses_by (slot_at run j).held j
decide_of run (Ok (Asked.Stops p)) = stops_when (cabinet_at run p).power p
decide_of run (Ok (Asked.Restarts p)) = Decision.Yes Outcome.Restarted (Change.OfCabinet p Deed.ComeUp)
decide_of run (Ok (Asked.RollsBack p j)) = rolls_of run.plan p j (sight_of (cabinet_at run p)) (others_from p 0 run.cabinets)

-- ---- put back

-- S5.6: the clients after a change
abbrev pub clients_after : List Client → Change → List Client
clients_after l (Change.OfClient i c) = set l i c
clients_after l (Change.OfSlot j t) = l
clients_after l (Change.OfCabinet p d) = l
clients_after l (Change.Hearing i c j) = set l i c
clients_after l (Change.Offering p e j t) = l

-- S5.6: the slots after a change; S6.6: what is emptied is empty at once
abbrev pub slots_after : List Slot → Change → List Slot
slots_after l (Change.OfClient i c) = l
slots_after l (Change.OfSlot j t) = set l j t
slots_after l (Change.OfCabinet p d) = l
slots_after l (Change.Hearing i c j) = set l j empty_slot
slots_after l (Change.Offering p e j t) = set l j t

-- S5.6: one record changes
unfoldable pub done_at : Plan → List Cabinet → ℕ → Deed → List Cabinet
done_at plan l p d = set l p (deed_of plan p d (get_or l p no_cabinet))

-- S5.6: the records after a change
abbrev pub cabinets_after : Plan → List Cabinet → Change → List Cabinet
cabinets_after plan l (Change.OfClient i c) = l
cabinets_after plan l (Change.OfSlot j t) = l
cabinets_after plan l (Change.OfCabinet p d) = done_at plan l p d
cabinets_after plan l (Change.Hearing i c j) = l
cabinets_after plan l (Change.Offering p e j t) = done_at plan l p (Deed.Weigh e)

-- S5.3: an accepted step is counted
unfoldable pub changed : Run → Change → Run
changed run x =
    record {
      plan = run.plan;
      steps = run.steps + 1;
      cabinets = cabinets_after run.plan run.cabinets x;
      clients = clients_after run.clients x;
      slots = slots_after run.slots x;
    }

-- S5.4: a refused step changes nothing
abbrev pub put_back : Run → Decision → Stepped
put_back run (Decision.No why) = record { answer = Err why; run = run }
put_back run (Decision.Yes o x) = record { answer = Ok o; run = changed run x }

-- ---- the step

-- S5.2: one that was let in
abbrev pub stepped_of : Run → Asked → Stepped
stepped_of run a = put_back run (decide_of run (Ok a))

-- S5.2: a step of an undamaged run
unfoldable pub go_of : Run → Step → Stepped
go_of run s = put_back run (decide_of run (admit_of run.plan.n run.steps s))

-- S1.1: a step of the register; S5.5, S12.1, S13.1: the damage check comes first
unfoldable pub step_of : Run → Step → Stepped
step_of run s = cond (undamaged run) (go_of run s) (record { answer = Err Refusal.Damaged; run = run })
