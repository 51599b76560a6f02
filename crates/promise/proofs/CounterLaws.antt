-- Every stamp's counter and every operation number of an undamaged run is at most its accepted steps. Assumes nothing.
use Prim.Native.Nat.{ℕ, ◌≤◌}
use mathlib.Core.Bool.{true}
use mathlib.Core.Path.{◌≡◌}
use native.Mathlib.Omega.{arith}
use lib.ListN.{get_or}
use Rattle.cabinet.specs.Entries.{factory_entry}
use Rattle.promise.specs.Names.{Body, Held, Run}
use Rattle.client.specs.Hear.{told_counter}
use Rattle.guard.proofs.DamageLaws.{client_says}
use Rattle.guard.proofs.MessageLaws.{Asks, HeldIs, address_says}
use Rattle.run.specs.Steps.{client_at, slot_at, cabinet_at}
use Rattle.run.specs.Undamaged.{undamaged}
use Rattle.run.proofs.FitLaws.{entry_low, tells_low, holds}
use Rattle.run.proofs.SoundLaws.{undamaged_says, sound_client, sound_version}

abbrev pub held_operation : Held → ℕ
held_operation Held.Empty = 0
held_operation (Held.Request m) = m.operation
held_operation (Held.Reply m) = m.operation

held_operation_within : (n steps : ℕ) (h : Held) → HeldIs n steps h → held_operation h ≤ steps
held_operation_within n steps Held.Empty e = omega arith
held_operation_within n steps (Held.Request m) e = (address_says n steps m e.0).0
held_operation_within n steps (Held.Reply m) e = (address_says n steps m e.0).0

-- of the stamp or entry that a message offers or tells
abbrev pub held_counter : Held → ℕ
held_counter Held.Empty = 0
held_counter (Held.Request m) = told_counter m.body
held_counter (Held.Reply m) = told_counter m.body

asks_low : (steps part : ℕ) (b : Body) → Asks steps part b → told_counter b ≤ steps
asks_low steps part Body.AskStamp h = omega arith
asks_low steps part Body.AskEntry h = omega arith
asks_low steps part (Body.Offer e) h = entry_low steps e h.1
asks_low steps part (Body.TellStamp s) h = absurd h
asks_low steps part (Body.TellEntry e) h = absurd h
asks_low steps part Body.Acknowledge h = omega arith

held_counter_within : (n steps : ℕ) (h : Held) → HeldIs n steps h → held_counter h ≤ steps
held_counter_within n steps Held.Empty e = omega arith
held_counter_within n steps (Held.Request m) e = asks_low steps m.part m.body e.1
held_counter_within n steps (Held.Reply m) e = tells_low steps m.part m.body e.1

module _ (run : Run) (whole : undamaged run ≡ true) where
  pub client_operation : (i : ℕ) → (client_at run i).operation ≤ run.steps
  client_operation i = (client_says run.plan run.steps i (client_at run i) (sound_client run (undamaged_says run whole) i)).0

  pub client_counter : (i : ℕ) → (client_at run i).best.stamp.counter ≤ run.steps
  client_counter i =
      entry_low run.steps (client_at run i).best
      (client_says run.plan run.steps i (client_at run i) (sound_client run (undamaged_says run whole) i)).1

  pub message_operation : (j : ℕ) → held_operation (slot_at run j).held ≤ run.steps
  message_operation j = held_operation_within run.plan.n run.steps (slot_at run j).held (holds run whole j)

  pub message_counter : (j : ℕ) → held_counter (slot_at run j).held ≤ run.steps
  message_counter j = held_counter_within run.plan.n run.steps (slot_at run j).held (holds run whole j)

  -- of every cabinet, the present version and the older ones
  pub version_counter : (p i : ℕ) → (get_or (cabinet_at run p).versions i factory_entry).stamp.counter ≤ run.steps
  version_counter p i = entry_low run.steps _ (sound_version run (undamaged_says run whole) p i)
