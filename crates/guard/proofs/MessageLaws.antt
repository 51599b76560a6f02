-- The damage check of messages and slots: what it says, when it is met, and that more steps never break it. Assumes nothing.
use Prim.Native.Nat.{ℕ, ◌≤◌, ◌<◌}
use mathlib.Core.Path.{◌≡◌}
use mathlib.Core.Bool.{true}
use native.Mathlib.Omega.{arith}
use Rattle.std.proofs.lemmas.Bool.Decides.{nat_tests}
use Rattle.limits.specs.Limits.{most_clients}
use Rattle.guard.specs.Names.{Body, Held, Message, Slot}
use Rattle.guard.specs.Damage.{stamp_sound, entry_sound, request_sound, reply_sound, address_sound, held_sound, slot_sound}
use Rattle.guard.proofs.DamageLaws.{stamp_mono, entry_mono}

-- what a request of a part may carry, and a reply
abbrev pub Asks : ℕ → ℕ → Body → Type 0
Asks steps part Body.AskStamp = part ≡ 1
Asks steps part Body.AskEntry = part ≡ 1
Asks steps part (Body.Offer e) = (part ≡ 2) × (entry_sound steps e ≡ true)
Asks steps part (Body.TellStamp s) = ⊥
Asks steps part (Body.TellEntry e) = ⊥
Asks steps part Body.Acknowledge = ⊥

abbrev pub Tells : ℕ → ℕ → Body → Type 0
Tells steps part Body.AskStamp = ⊥
Tells steps part Body.AskEntry = ⊥
Tells steps part (Body.Offer e) = ⊥
Tells steps part (Body.TellStamp s) = (part ≡ 1) × (stamp_sound steps s ≡ true)
Tells steps part (Body.TellEntry e) = (part ≡ 1) × (entry_sound steps e ≡ true)
Tells steps part Body.Acknowledge = part ≡ 2

module _ (steps part : ℕ) where
  request_says : (b : Body) → request_sound steps part b ≡ true → Asks steps part b
  unfolding request_sound
  request_says b h = grind (arith, nat_tests)

  request_made : (b : Body) → Asks steps part b → request_sound steps part b ≡ true
  unfolding request_sound
  request_made b h = grind (arith, nat_tests)

  reply_says : (b : Body) → reply_sound steps part b ≡ true → Tells steps part b
  unfolding reply_sound
  reply_says b h = grind (arith, nat_tests)

  reply_made : (b : Body) → Tells steps part b → reply_sound steps part b ≡ true
  unfolding reply_sound
  reply_made b h = grind (arith, nat_tests)

pub address_says : (n steps : ℕ) (m : Message) → address_sound n steps m ≡ true
    → (m.operation ≤ steps) × (m.client < most_clients) × (m.cabinet < n)
unfolding address_sound
address_says n steps m h = grind (arith, nat_tests)

pub address_made : (n steps : ℕ) (m : Message) → m.operation ≤ steps → m.client < most_clients → m.cabinet < n
    → address_sound n steps m ≡ true
unfolding address_sound
address_made n steps m o c k = grind (arith, nat_tests)

abbrev pub HeldIs : ℕ → ℕ → Held → Type 0
HeldIs n steps Held.Empty = Unit {0}
HeldIs n steps (Held.Request m) = (address_sound n steps m ≡ true) × Asks steps m.part m.body
HeldIs n steps (Held.Reply m) = (address_sound n steps m ≡ true) × Tells steps m.part m.body

held_says : (n steps : ℕ) (h : Held) → held_sound n steps h ≡ true → HeldIs n steps h
held_says n steps h e = grind (arith, nat_tests, request_says, reply_says)

held_made : (n steps : ℕ) (h : Held) → HeldIs n steps h → held_sound n steps h ≡ true
held_made n steps h e = grind (arith, nat_tests, request_made, reply_made)

module _ (a b : ℕ) (l : a ≤ b) where
  asks_mono : (part : ℕ) (x : Body) → Asks a part x → Asks b part x
  asks_mono part x h = grind (arith, nat_tests, entry_mono)

  tells_mono : (part : ℕ) (x : Body) → Tells a part x → Tells b part x
  tells_mono part x h = grind (arith, nat_tests, stamp_mono, entry_mono)

  address_mono : (n : ℕ) (m : Message) → address_sound n a m ≡ true → address_sound n b m ≡ true
  unfolding address_sound
  address_mono n m h = grind (arith, nat_tests)

  held_mono : (n : ℕ) (h : Held) → HeldIs n a h → HeldIs n b h
  held_mono n h e = grind (arith, nat_tests, address_mono, asks_mono, tells_mono)

pub slot_says : (n steps j : ℕ) (t : Slot) → slot_sound n steps j t ≡ true → HeldIs n steps t.held
unfolding slot_sound
slot_says n steps j t h = held_says n steps t.held h

pub slot_made : (n steps j : ℕ) (t : Slot) → HeldIs n steps t.held → slot_sound n steps j t ≡ true
unfolding slot_sound
slot_made n steps j t h = held_made n steps t.held h

pub slot_mono : (n a b j : ℕ) (t : Slot) → a ≤ b → slot_sound n a j t ≡ true → slot_sound n b j t ≡ true
slot_mono n a b j t l h = slot_made n b j t (held_mono a b l n t.held (slot_says n a j t h))
