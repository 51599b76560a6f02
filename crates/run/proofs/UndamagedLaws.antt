-- Every step keeps an undamaged run undamaged, and a fresh run is: "Runs reached from a fresh one always pass". Assumes nothing.
use Rattle.std.proofs.Common.{ℕ, ◌+◌, ◌<◌, true, List, [], ◌∷◌, ◌≡◌, refl, arith}
use Rattle.std.proofs.lemmas.Bool.Decides.{nat_tests}
use Rattle.limits.specs.Limits.{most_cabinets, most_clients, most_slots, most_versions}
use Rattle.run.specs.Names.{Refusal, Asked, Err, Held, Ok, Plan, Planned, Power, Result, Run, Sight, Step, Unplanned}
use Rattle.plan.specs.Rule.{in_range, chosen, plan_of, forgetful_plan}
use Rattle.plan.proofs.RuledLaws.{accepted_ruled}
use Rattle.cabinet.specs.Cabinets.{fresh_cabinet}
use Rattle.cabinet.specs.Entries.{factory_entry}
use Rattle.types.specs.Parts.{fresh_client, empty_slot}
use Rattle.admit.specs.Admit.{placed}
use Rattle.server.specs.Deeds.{stops_when, rolls_of}
use Rattle.guard.specs.All.{all_from}
use Rattle.guard.specs.Damage.{kept_sound, version_sound, record_sound, cabinet_sound, client_sound, slot_sound}
use Rattle.guard.proofs.AllLaws.{all_replicate}
use Rattle.guard.proofs.DamageLaws.{factory_made, version_factory, fresh_made, client_made}
use Rattle.guard.proofs.MessageLaws.{HeldIs, slot_says}
use Rattle.run.specs.Lists.{run_all}
use Rattle.run.specs.Start.{fresh_run, start_by, start_of}
use Rattle.run.specs.Steps.{delivers_in, decide_of, put_back, go_of, step_of}
use Rattle.run.specs.Undamaged.{undamaged}
use Rattle.admit.proofs.AdmitLaws.{Placed, range_placed, admitted_by}
use Rattle.run.proofs.FrameLaws.{step_by}
use Rattle.run.proofs.ShapeLaws.{Shaped, fresh_shaped, step_shaped}
use Rattle.run.proofs.SoundLaws.{Sound, undamaged_says, undamaged_made, sound_plan, sound_client, sound_slot, sound_present}
use Rattle.run.proofs.UndamagedChanges.{Keeps, refused, of_cabinet, empty_sound, put_sound}
use Rattle.run.proofs.UndamagedClients.{begins_keeps, leaves_keeps}
use Rattle.run.proofs.UndamagedHearing.{hears_keeps}
use Rattle.run.proofs.UndamagedSlots.{sends_keeps, answers_keeps, loses_keeps}

-- ---- a step

stops_keep : (plan : Plan) (steps p : ℕ) (w : Power) → p < plan.n → Keeps plan steps (stops_when w p)
stops_keep plan steps p w line = grind (arith, refused, of_cabinet)

rolls_keep : (plan : Plan) (steps p j : ℕ) (k : Sight) (others : ℕ) → p < plan.n → Keeps plan steps (rolls_of plan p j k others)
unfolding rolls_of
rolls_keep plan steps p j k others line = grind (arith, refused, of_cabinet)

module _ (run : Run) (sound : Sound run) where
  delivers_keep : (j : ℕ) (h : Held) → HeldIs run.plan.n run.steps h → Keeps run.plan (run.steps + 1) (delivers_in run j h)
  delivers_keep j h f = grind (arith, refused, answers_keeps, hears_keeps, sound_present, sound_plan, sound_client)

  asked_keeps : (a : Result Asked Refusal) → Placed run.plan.n a → Keeps run.plan (run.steps + 1) (decide_of run a)
  unfolding decide_of
  asked_keeps (Err why) p = refused
  asked_keeps (Ok (Asked.Begins i w)) p = grind (arith, begins_keeps, sound_plan, sound_client)
  asked_keeps (Ok (Asked.Leaves i)) p = grind (arith, leaves_keeps, sound_plan, sound_client)
  asked_keeps (Ok (Asked.Sends i k)) p = grind (arith, sends_keeps, sound_client)
  asked_keeps (Ok (Asked.Delivers j)) p = delivers_keep j _ (slot_says _ _ j _ (sound_slot run sound j))
  asked_keeps (Ok (Asked.Loses j)) p = loses_keeps _ _ j _
  asked_keeps (Ok (Asked.Stops k)) p = stops_keep _ _ k _ p
  asked_keeps (Ok (Asked.Restarts k)) p = of_cabinet p tt
  asked_keeps (Ok (Asked.RollsBack k j)) p = rolls_keep _ _ k j _ _ p.0

go_undamaged : (run : Run) (s : Step) → undamaged run ≡ true → undamaged (go_of run s).run ≡ true
unfolding go_of decide_of
go_undamaged run s h =
    let sound = undamaged_says run h in
    undamaged_made _
    (admitted_by run.plan.n run.steps s (λ a. Sound (put_back run (decide_of run a)).run) (λ why. sound)
    (λ e room. put_sound run sound room _ (asked_keeps run sound (placed s) (range_placed run.plan.n s e))))

pub step_undamaged : (run : Run) (s : Step) → undamaged run ≡ true → undamaged (step_of run s).run ≡ true
step_undamaged run s h = step_by run s (λ (r : Run). undamaged r ≡ true) h (go_undamaged run s h)

-- ---- a fresh run

fresh_cabinet_sound : (plan : Plan) (i : ℕ) → cabinet_sound plan 0 i fresh_cabinet ≡ true
unfolding cabinet_sound record_sound kept_sound
fresh_cabinet_sound plan i = grind (arith, nat_tests, versions, fresh_made)
  where
    versions : all_from (version_sound 0 1) 0 fresh_cabinet.versions ≡ true
    versions = all_replicate (version_sound 0 1) 0 most_versions factory_entry (λ j. version_factory 0 1 j)

pub fresh_undamaged : (n k r b : ℕ) (p : Plan) → plan_of n k r b ≡ Ok p → undamaged (fresh_run p) ≡ true
unfolding fresh_run
fresh_undamaged n k r b p e =
    undamaged_made (fresh_run p)
    (record {
      ruled = accepted_ruled n k r b p e;
      steps = omega arith;
      clients = all_replicate (client_sound p 0) 0 most_clients fresh_client (λ i. grind (arith, client_made, factory_made));
      slots = all_replicate (slot_sound p.n 0) 0 most_slots empty_slot (λ j. empty_sound p.n 0 j);
      cabinets = all_replicate (cabinet_sound p 0) 0 most_cabinets fresh_cabinet (λ i. fresh_cabinet_sound p i);
    })

plain : plan_of 2 0 0 0 ≡ Ok (forgetful_plan 2 0 0 0)
unfolding plan_of in_range chosen
plain = refl

-- every run that planning gives, the one beside a refusal too
module _ (n k r b : ℕ) where
  pub start_undamaged : undamaged (start_of n k r b).run ≡ true
  unfolding start_of
  start_undamaged = grind (arith, fresh_undamaged, plain)

  start_shaped : Shaped (start_of n k r b).run
  unfolding start_of
  start_shaped = go (plan_of n k r b)
    where
      go : (x : Planned) → Shaped (start_by x).run
      go (Err Unplanned.OutOfRange) = fresh_shaped (forgetful_plan 2 0 0 0)
      go (Err Unplanned.TooSmall) = fresh_shaped (forgetful_plan 2 0 0 0)
      go (Ok p) = fresh_shaped p

-- ---- many steps

-- what a step keeps, a list of steps keeps
pub all_by : (P : Run → Type 0) → ((run : Run) (s : Step) → P run → P (step_of run s).run) → (run : Run) (ss : List Step) → P run
    → P (run_all run ss)
unfolding run_all
all_by P keeps run [] h = h
all_by P keeps run (s ∷ ss) h = all_by P keeps (step_of run s).run ss (keeps run s h)

pub record Whole (run : Run) : Type 0 where
  pub shaped : Shaped run
  pub sound : undamaged run ≡ true

pub step_whole : (run : Run) (s : Step) → Whole run → Whole (step_of run s).run
step_whole run s w = record { shaped = step_shaped run s w.shaped; sound = step_undamaged run s w.sound }

-- a run that any list of steps reaches from a started one
pub reached : (n k r b : ℕ) (ss : List Step) → Whole (run_all (start_of n k r b).run ss)
reached n k r b ss =
    all_by Whole step_whole (start_of n k r b).run ss (record { shaped = start_shaped n k r b; sound = start_undamaged n k r b })
