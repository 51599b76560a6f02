-- A change whose parts are sound leaves an undamaged run undamaged. Assumes nothing.
use Rattle.std.proofs.Common.{ℕ, ◌+◌, ◌<◌, true, ◌≡◌, arith}
use Rattle.limits.specs.Limits.{most_steps}
use Rattle.run.specs.Names.{Change, Client, Decision, Deed, Entry, Outcome, Plan, Refusal, Run, Slot}
use Rattle.types.specs.Parts.{empty_slot, no_cabinet}
use Rattle.server.specs.Deeds.{deed_of}
use Rattle.guard.specs.All.{all_from}
use Rattle.guard.specs.Damage.{entry_sound, slot_sound, cabinet_sound, client_sound}
use Rattle.guard.proofs.AllLaws.{all_mono, all_zero_set, all_zero_change}
use Rattle.guard.proofs.DamageLaws.{client_mono, cabinet_mono}
use Rattle.guard.proofs.MessageLaws.{slot_made, slot_mono}
use Rattle.run.specs.Steps.{done_at, changed, put_back}
use Rattle.run.proofs.SoundLaws.{Sound}
use Rattle.run.proofs.UndamagedCabinets.{DeedSound, deed_sound}

-- a decision that makes only sound parts, by this number of accepted steps
pub data Keeps (plan : Plan) (steps : ℕ) : Decision → Type 0 where
  refused : {why : Refusal} → Keeps plan steps (Decision.No why)
  of_client : {o : Outcome} {i : ℕ} {c : Client} → client_sound plan steps i c ≡ true
      → Keeps plan steps (Decision.Yes o (Change.OfClient i c))
  of_slot : {o : Outcome} {j : ℕ} {t : Slot} → slot_sound plan.n steps j t ≡ true → Keeps plan steps (Decision.Yes o (Change.OfSlot j t))
  of_cabinet : {o : Outcome} {p : ℕ} {d : Deed} → p < plan.n → DeedSound steps d → Keeps plan steps (Decision.Yes o (Change.OfCabinet p d))
  of_hearing : {o : Outcome} {i j : ℕ} {c : Client} → client_sound plan steps i c ≡ true
      → Keeps plan steps (Decision.Yes o (Change.Hearing i c j))
  of_offering : {o : Outcome} {p j : ℕ} {e : Entry} {t : Slot} → p < plan.n → entry_sound steps e ≡ true
      → slot_sound plan.n steps j t ≡ true
      → Keeps plan steps (Decision.Yes o (Change.Offering p e j t))

pub empty_sound : (n steps j : ℕ) → slot_sound n steps j empty_slot ≡ true
empty_sound n steps j = slot_made n steps j empty_slot tt

module _ (run : Run) (sound : Sound run) where
  abbrev next : ℕ
  next = run.steps + 1

  clients_later : all_from (client_sound run.plan next) 0 run.clients ≡ true
  clients_later = all_mono _ _ 0 run.clients (λ i c. client_mono run.plan run.steps next i c (omega arith)) sound.clients

  slots_later : all_from (slot_sound run.plan.n next) 0 run.slots ≡ true
  slots_later = all_mono _ _ 0 run.slots (λ j t. slot_mono run.plan.n run.steps next j t (omega arith)) sound.slots

  cabinets_later : all_from (cabinet_sound run.plan next) 0 run.cabinets ≡ true
  cabinets_later = all_mono _ _ 0 run.cabinets (λ p k. cabinet_mono run.plan run.steps next p k (omega arith)) sound.cabinets

  cabinets_done : (p : ℕ) (d : Deed) → p < run.plan.n → DeedSound next d
      → all_from (cabinet_sound run.plan next) 0 (done_at run.plan run.cabinets p d) ≡ true
  unfolding done_at
  cabinets_done p d line h =
      all_zero_change (cabinet_sound run.plan next) p run.cabinets cabinets_later no_cabinet (deed_of run.plan p d)
      (λ k r. deed_sound run.plan next p line d k h r)

  pub put_sound : run.steps < most_steps → (x : Decision) → Keeps run.plan next x → Sound (put_back run x).run
  unfolding changed
  put_sound room x k = grind (arith, clients_later, slots_later, cabinets_later, all_zero_set, cabinets_done, empty_sound)
