-- The promise is not empty: in each profile a write is begun, chosen and finished and a read then shows it, and case R1 of
-- docs/SCOPE.md (S17.12) answers as printed there. By computation. Assumes nothing.
use Prim.Native.Nat.{ℕ, zero, suc}
use mathlib.Core.Path.{◌≡◌, refl}
use mathlib.Core.Bool.{true}
use mathlib.Core.List.{List, [], ◌∷◌}
use Rattle.promise.specs.Names.{Answer, Entry, Err, Ok, Outcome, Reading, Refusal, Run, Step}
use Rattle.limits.specs.Limits.{to_factory}
use Rattle.plan.specs.Rule.{forgetful_plan, store_plan, is_ruled, plan_of, chosen as chosen_plan, in_range as plan_in_range}
use Rattle.cabinet.specs.Cabinets.{offered, taken, restarted, has_version, rolled_back}
use Rattle.cabinet.specs.Entries.{later_than, is_factory}
use Rattle.heard.specs.Heard.{has_of, voice_of, with_of, how_many, count_of, within_of}
use Rattle.client.specs.Begin.{begins_of, sends_of, leaves_of}
use Rattle.client.specs.Hear.{told_of, best_of, first_write, first_read, second, hears_of}
use Rattle.admit.specs.Admit.{one_to, in_range, placed, admit_of}
use Rattle.server.specs.Deeds.{rolls_of, deed_of}
use Rattle.server.specs.Requests.{answers_of}
use Rattle.guard.specs.All.{all_from}
use Rattle.guard.specs.Damage.{stamp_sound, entry_sound, request_sound, reply_sound, address_sound, slot_sound, version_sound, kept_sound, record_sound, is_fresh, cabinet_sound, heard_sound, client_sound}
use Rattle.run.specs.Gather.{first_from, others_from}
use Rattle.run.specs.Lists.{run_all}
use Rattle.run.specs.Start.{fresh_run, start_of}
use Rattle.run.specs.Steps.{step_of, go_of, changed, done_at, decide_of, client_at, slot_at, cabinet_at}
use Rattle.run.specs.Undamaged.{undamaged, rest_sound}
use Rattle.promise.specs.Events.{write, read, writes, reads, Event, nothing, begun, chosen, finished, event, events}

-- so many steps without an event
abbrev quiet : ℕ → List Event → List Event
quiet zero l = l
quiet (suc n) l = nothing ∷ quiet n l

abbrev answers : Run → List Step → List Answer
answers run [] = []
answers run (s ∷ ss) = (step_of run s).answer ∷ answers (step_of run s).run ss

-- what the first write of client 1 chooses
abbrev first : Reading → Entry
first r = record { stamp = record { counter = 1; writer = 1 }; reading = r }

-- P1: client 1 writes by cabinets 1, 2 and then 1, 3; client 2 reads by cabinets 2, 3 and then 1, 2
abbrev p1 : List Step
p1 =
    Step.Write 1 Reading.Closed
    ∷ Step.Send 1 1 ∷ Step.Send 1 2 ∷ Step.Deliver 1 ∷ Step.Deliver 2 ∷ Step.Deliver 1 ∷ Step.Deliver 2
    ∷ Step.Send 1 1 ∷ Step.Send 1 3 ∷ Step.Deliver 1 ∷ Step.Deliver 2 ∷ Step.Deliver 1 ∷ Step.Deliver 2
    ∷ Step.Read 2
    ∷ Step.Send 2 2 ∷ Step.Send 2 3 ∷ Step.Deliver 1 ∷ Step.Deliver 2 ∷ Step.Deliver 1 ∷ Step.Deliver 2
    ∷ Step.Send 2 1 ∷ Step.Send 2 2 ∷ Step.Deliver 1 ∷ Step.Deliver 2 ∷ Step.Deliver 1 ∷ Step.Deliver 2
    ∷ []

-- P3: the same by three cabinets at a time; cabinet 1 is rolled back by j in between and still answers the read
abbrev p3 : ℕ → List Step
p3 j =
    Step.Write 1 (Reading.Open 6)
    ∷ Step.Send 1 1 ∷ Step.Send 1 2 ∷ Step.Send 1 3 ∷ Step.Deliver 1 ∷ Step.Deliver 2 ∷ Step.Deliver 3 ∷ Step.Deliver 1 ∷ Step.Deliver 2 ∷
    Step.Deliver 3
    ∷ Step.Send 1 1 ∷ Step.Send 1 2 ∷ Step.Send 1 3 ∷ Step.Deliver 1 ∷ Step.Deliver 2 ∷ Step.Deliver 3 ∷ Step.Deliver 1 ∷ Step.Deliver 2 ∷
    Step.Deliver 3
    ∷ Step.Rollback 1 j
    ∷ Step.Read 2
    ∷ Step.Send 2 1 ∷ Step.Send 2 2 ∷ Step.Send 2 4 ∷ Step.Deliver 1 ∷ Step.Deliver 2 ∷ Step.Deliver 3 ∷ Step.Deliver 1 ∷ Step.Deliver 2 ∷
    Step.Deliver 3
    ∷ Step.Send 2 1 ∷ Step.Send 2 2 ∷ Step.Send 2 4 ∷ Step.Deliver 1 ∷ Step.Deliver 2 ∷ Step.Deliver 3 ∷ Step.Deliver 1 ∷ Step.Deliver 2 ∷
    Step.Deliver 3
    ∷ []

abbrev p3_told : List Event
p3_told =
    begun 0 1 (writes (Reading.Open 6)) ∷ quiet 8 (chosen 0 1 (first (Reading.Open 6)) ∷ quiet 8 (finished 0 1 write (first (Reading.Open 6))
    ∷ nothing ∷ begun 1 1 reads ∷ quiet 17 (finished 1 1 read (first (Reading.Open 6)) ∷ [])))

abbrev r1 : List Step
r1 =
    Step.Write 1 (Reading.Open 6) ∷ Step.Send 1 1 ∷ Step.Deliver 1 ∷ Step.Deliver 1 ∷ Step.Restart 2 ∷ Step.Send 1 2 ∷ Step.Deliver 1 ∷
    Step.Deliver 1 ∷ []

pub record Worked : Type 0 where
  pub forgetful_planned : (start_of 3 1 0 0).planned ≡ Ok (forgetful_plan 3 1 0 0)
  pub forgetful : events (start_of 3 1 0 0).run p1
      ≡ begun 0 1 (writes Reading.Closed) ∷ quiet 5 (chosen 0 1 (first Reading.Closed) ∷ quiet 5 (finished 0 1 write (first Reading.Closed)
      ∷ begun 1 1 reads ∷ quiet 11 (finished 1 1 read (first Reading.Closed) ∷ [])))
  pub store_planned : (start_of 4 1 1 2).planned ≡ Ok (store_plan 4 1 1 2)
  pub store : events (start_of 4 1 1 2).run (p3 1) ≡ p3_told
  -- to the factory entry: it is rolled back, and the read shows the same
  pub factory_marked : (cabinet_at (run_all (start_of 4 1 1 2).run (p3 to_factory)) 0).marked ≡ true
  pub factory : events (start_of 4 1 1 2).run (p3 to_factory) ≡ p3_told
  -- R1
  pub r1_answers : answers (start_of 3 1 0 0).run r1
      ≡ Ok Outcome.Begun ∷ Ok (Outcome.Sent 1) ∷ Ok (Outcome.Answered 1) ∷ Ok
      (Outcome.Counted 1) ∷ Ok Outcome.Restarted
      ∷ Ok (Outcome.Sent 1) ∷ Ok (Outcome.Unanswered 1) ∷ Err Refusal.NoMessage ∷ []
  pub r1_events : events (start_of 3 1 0 0).run r1 ≡ begun 0 1 (writes (Reading.Open 6)) ∷ quiet 7 []

-- every definition that a step uses is opened, so that the lists compute
pub worked : Worked
unfolding fresh_run start_of is_ruled plan_of chosen_plan plan_in_range later_than is_factory offered taken restarted has_version rolled_back has_of voice_of with_of how_many count_of within_of begins_of sends_of leaves_of told_of best_of first_write first_read second hears_of one_to in_range placed admit_of answers_of rolls_of deed_of all_from stamp_sound entry_sound request_sound reply_sound address_sound slot_sound version_sound kept_sound record_sound is_fresh cabinet_sound heard_sound client_sound first_from others_from run_all step_of go_of changed done_at decide_of client_at slot_at cabinet_at undamaged rest_sound event
worked =
    record {
      forgetful_planned = refl;
      forgetful = refl;
      store_planned = refl;
      store = refl;
      factory_marked = refl;
      factory = refl;
      r1_answers = refl;
      r1_events = refl;
    }
