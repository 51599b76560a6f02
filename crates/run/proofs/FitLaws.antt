-- What an undamaged run tells of the places and numbers in it: places within the arrays, and numbers so small that no sum of a step wraps.
-- Assumes nothing.
use Rattle.std.proofs.Common.{ℕ, ◌≤◌, ◌<◌, true, ◌≡◌, arith, get_or}
use Rattle.std.proofs.lemmas.Bool.Decides.{nat_tests}
use Rattle.limits.specs.Limits.{most_cabinets, most_clients, most_steps}
use Rattle.run.specs.Names.{Body, Entry, Held, Message, Run}
use Rattle.types.specs.Parts.{empty_slot, fresh_client}
use Rattle.client.specs.Hear.{told_counter}
use Rattle.guard.specs.Damage.{stamp_sound, entry_sound}
use Rattle.guard.proofs.DamageLaws.{stamp_says, client_says}
use Rattle.guard.proofs.MessageLaws.{Tells, HeldIs, address_says, slot_says}
use Rattle.run.specs.Steps.{client_at, slot_at}
use Rattle.run.specs.Undamaged.{undamaged}
use Rattle.run.proofs.SoundLaws.{undamaged_says, sound_plan, sound_client, sound_slot}

pub entry_low : (steps : ℕ) (e : Entry) → entry_sound steps e ≡ true → e.stamp.counter ≤ steps
unfolding entry_sound stamp_sound
entry_low steps e h = grind (arith, nat_tests)

pub tells_low : (steps part : ℕ) (b : Body) → Tells steps part b → told_counter b ≤ steps
tells_low steps part b h = grind (arith, stamp_says, entry_low)

-- ---- of a run

module _ (run : Run) (whole : undamaged run ≡ true) where
  pub steps_most : run.steps ≤ most_steps
  steps_most = (undamaged_says run whole).steps

  pub cabinets_range : (2 ≤ run.plan.n) × (run.plan.n ≤ most_cabinets)
  cabinets_range = let q = sound_plan run (undamaged_says run whole) in (q.fewest, q.most)

  pub holds : (j : ℕ) → HeldIs run.plan.n run.steps (slot_at run j).held
  holds j = slot_says run.plan.n run.steps j (slot_at run j) (sound_slot run (undamaged_says run whole) j)

  module _ (i : ℕ) where
    pub client_operation : (get_or run.clients i fresh_client).operation ≤ most_steps
    unfolding client_at
    client_operation = grind (arith, client_says, sound_client run (undamaged_says run whole) i, steps_most)

    pub client_best : (get_or run.clients i fresh_client).best.stamp.counter ≤ most_steps
    unfolding client_at
    client_best = grind (arith, client_says, sound_client run (undamaged_says run whole) i, steps_most, entry_low)

  module _ (j : ℕ) (m : Message) where
    pub request_places : (get_or run.slots j empty_slot).held ≡ Held.Request m → (m.client < most_clients) × (m.cabinet < most_cabinets)
    unfolding slot_at
    request_places g = grind (arith, address_says, holds j, cabinets_range)

    pub reply_places : (get_or run.slots j empty_slot).held ≡ Held.Reply m → (m.client < most_clients) × (m.cabinet < most_cabinets)
    unfolding slot_at
    reply_places g = grind (arith, address_says, holds j, cabinets_range)

    pub reply_told : (get_or run.slots j empty_slot).held ≡ Held.Reply m → told_counter m.body ≤ most_steps
    unfolding slot_at
    reply_told g = grind (arith, tells_low, holds j, steps_most)

-- what the code of a step needs of these
pub ruleset in_run = (steps_most, client_operation, client_best, request_places, reply_places, reply_told)
