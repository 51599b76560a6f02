-- Every open operation was begun for what it does, and a write's second part offers what was chosen. The number I18 is that of
-- docs/PROMISE.md. Assumes nothing.
use Prim.Native.Nat.{ℕ}
use mathlib.Core.Path.{◌≡◌, refl}
use mathlib.Core.Bool.{Bool}
use mathlib.Core.Logic.{◌⊎◌, inl, inr, ⊎_elim}
use Rattle.promise.specs.Names.{Entry}
use Rattle.promise.specs.Events.{Kind, write, read, Aim, writes, reads, kind_of, Event, begun, chosen, finished}
use Rattle.promise.proofs.View.{Phase, idle, gone, first, second, View, Act, begin, hear, choose, find, count, finish, leave, Move, radio, client}

-- B: what was begun, W: what was chosen, by client and number
module _ (B : ℕ → ℕ → Aim → Type 0) (W : ℕ → ℕ → Entry → Type 0) where
  abbrev OpenedAt : ℕ → ℕ → Phase → Type 0
  OpenedAt c n idle = Unit
  OpenedAt c n gone = Unit
  OpenedAt c n (first q H D b) = B c n q
  OpenedAt c n (second read H e) = B c n reads
  OpenedAt c n (second write H e) = B c n (writes e.reading) × W c n e

  -- I18: an open operation was begun for what it does; a second part of a write offers the entry that was chosen, with the reading begun with
  abbrev pub Opened : View → Type 0
  Opened v = (c : ℕ) → OpenedAt c (v.client c).number (v.client c).phase

module _ (Quorum : (ℕ → Bool) → Type 0) (B : ℕ → ℕ → Aim → Type 0) (W : ℕ → ℕ → Entry → Type 0) where
  abbrev Begun : Event → ℕ → ℕ → Aim → Type 0
  Begun l c n q = B c n q ⊎ (l ≡ begun c n q)

  abbrev Chosen : Event → ℕ → ℕ → Entry → Type 0
  Chosen l c n e = W c n e ⊎ (l ≡ chosen c n e)

  opened_up : (l : Event) (c n : ℕ) (f : Phase) → OpenedAt B W c n f → OpenedAt (Begun l) (Chosen l) c n f
  opened_up l c n idle h = tt
  opened_up l c n gone h = tt
  opened_up l c n (first q H D b) h = inl h
  opened_up l c n (second read H e) h = inl h
  opened_up l c n (second write H e) h = (inl h.0, inl h.1)

  opened_act : {v w : View} {c : ℕ} {l : Event} → Opened B W v → Act Quorum v w c l
      → OpenedAt (Begun l) (Chosen l) c (w.client c).number (w.client c).phase
  opened_act O (begin n q D a b) = rw b (inr refl)
  opened_act {c = c} O (hear n q H D H' D' b b' x y t) = rw t (inl (rw x at (O c)))
  opened_act {c = c} O (choose n H D H' D' b b' e x y z u t) = rw t (inl (rw x at (O c)), inr refl)
  opened_act {c = c} O (find n H D H' D' b b' x y z t) = rw t (inl (rw x at (O c)))
  opened_act {c = c} O (count n read H H' e x y t) = rw t (inl (rw x at (O c)))
  opened_act {c = c} O (count n write H H' e x y t) = rw t (let h = rw x at (O c) in (inl h.0, inl h.1))
  opened_act O (finish n k H H' e x y z t) = rw t tt
  opened_act O (leave t) = rw t tt

  pub opened_move : {v w : View} {l : Event} → Move Quorum v w l → Opened B W v → Opened (Begun l) (Chosen l) w
  opened_move {v} {w} {l} (radio g s a o) O c = rw (o c) (opened_up l c (v.client c).number (v.client c).phase (O c))
  opened_move {v} {w} {l} (client d g s a o m) O c =
      ⊎_elim (λ e. rw e (opened_act O m)) (λ e. rw e (opened_up l c (v.client c).number (v.client c).phase (O c))) (o c)

  -- ---- what stands behind a finished operation and a choice

  pub opened_finish : {v w : View} {c n : ℕ} {k : Kind} {e : Entry} → Opened B W v → Move Quorum v w (finished c n k e)
      → (q : Aim) × (kind_of q ≡ k) × B c n q
  opened_finish O (client c g h a o (finish n read H H' e x y z t)) = (reads, refl, rw x at (O c))
  opened_finish O (client c g h a o (finish n write H H' e x y z t)) = (writes e.reading, refl, (rw x at (O c)).0)

  pub opened_written : {v w : View} {c n : ℕ} {e : Entry} → Opened B W v → Move Quorum v w (finished c n write e) → W c n e
  opened_written O (client c g h a o (finish n k H H' e x y z t)) = (rw x at (O c)).1

  pub opened_choice : {v w : View} {c n : ℕ} {e : Entry} → Opened B W v → Move Quorum v w (chosen c n e) → B c n (writes e.reading)
  opened_choice O (client c g h a o (choose n H D H' D' b b' e x y z u t)) = rw x at (O c)
