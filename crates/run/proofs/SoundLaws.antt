-- What an undamaged run says of each of its parts. Assumes nothing.
use Rattle.std.proofs.Common.{ℕ, ◌≤◌, true, ◌≡◌, refl, arith, get_or}
use Rattle.std.proofs.lemmas.Bool.Decides.{nat_tests}
use Rattle.limits.specs.Limits.{most_steps}
use Rattle.run.specs.Names.{Cabinet, Plan, Run}
use Rattle.plan.specs.Rule.{is_ruled}
use Rattle.plan.proofs.RuleLaws.{Quorums, quorums}
use Rattle.plan.proofs.RuledLaws.{ruled_accepted}
use Rattle.cabinet.specs.Cabinets.{present_of}
use Rattle.cabinet.specs.Entries.{factory_entry}
use Rattle.types.specs.Parts.{fresh_client, empty_slot, no_cabinet}
use Rattle.guard.specs.All.{all_from}
use Rattle.guard.specs.Damage.{entry_sound, version_sound, factory_at, cabinet_sound, client_sound, slot_sound}
use Rattle.guard.proofs.AllLaws.{all_mono, all_zero_read}
use Rattle.guard.proofs.DamageLaws.{joined, factory_is, factory_says, factory_made, fresh_says, version_says, version_factory, record_says, client_made}
use Rattle.run.specs.Steps.{client_at, slot_at, cabinet_at}
use Rattle.run.specs.Undamaged.{rest_sound, undamaged}

pub record Sound (run : Run) : Type 0 where
  pub ruled : is_ruled run.plan ≡ true
  pub steps : run.steps ≤ most_steps
  pub clients : all_from (client_sound run.plan run.steps) 0 run.clients ≡ true
  pub slots : all_from (slot_sound run.plan.n run.steps) 0 run.slots ≡ true
  pub cabinets : all_from (cabinet_sound run.plan run.steps) 0 run.cabinets ≡ true

pub undamaged_says : (run : Run) → undamaged run ≡ true → Sound run
unfolding undamaged rest_sound
undamaged_says run h = grind (arith, nat_tests)

pub undamaged_made : (run : Run) → Sound run → undamaged run ≡ true
unfolding undamaged rest_sound
undamaged_made run h = joined _ _ (grind (arith, nat_tests)) h.cabinets

-- every version of a cabinet is sound
versions_sound : (plan : Plan) (steps i : ℕ) (k : Cabinet) → cabinet_sound plan steps i k ≡ true
    → (j : ℕ) → entry_sound steps (get_or k.versions j factory_entry) ≡ true
unfolding cabinet_sound
versions_sound plan steps i k h j =
    let read = all_zero_read (version_sound steps k.kept) j k.versions in
    let read_fresh = all_zero_read factory_at j k.versions in
    grind (arith, nat_tests, record_says, version_says, version_factory, fresh_says, factory_is, factory_says, factory_made, read, read_fresh)

-- ---- each part, wherever it is read

module _ (run : Run) (sound : Sound run) where
  pub sound_plan : Quorums run.plan
  sound_plan = quorums _ _ _ _ run.plan (ruled_accepted run.plan sound.ruled)

  pub sound_client : (i : ℕ) → client_sound run.plan run.steps i (client_at run i) ≡ true
  unfolding client_at
  sound_client i =
      all_zero_read (client_sound run.plan run.steps) i run.clients sound.clients fresh_client
      (client_made run.plan run.steps i fresh_client (omega arith) (factory_made run.steps) refl)

  pub sound_slot : (j : ℕ) → slot_sound run.plan.n run.steps j (slot_at run j) ≡ true
  unfolding slot_at slot_sound
  sound_slot j = all_zero_read (slot_sound run.plan.n run.steps) j run.slots sound.slots empty_slot refl

  pub sound_version : (p j : ℕ) → entry_sound run.steps (get_or (cabinet_at run p).versions j factory_entry) ≡ true
  unfolding cabinet_at
  sound_version p j =
      all_zero_read (λ (i : ℕ) (k : Cabinet). entry_sound run.steps (get_or k.versions j factory_entry)) p run.cabinets
      (all_mono _ _ 0 run.cabinets (λ i k h. versions_sound run.plan run.steps i k h j) sound.cabinets)
      no_cabinet
      (factory_made run.steps)

  pub sound_present : (p : ℕ) → entry_sound run.steps (present_of (cabinet_at run p)) ≡ true
  sound_present p = sound_version p 0
