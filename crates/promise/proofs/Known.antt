-- Every entry in a cabinet, on the air or at a client is one that a write chose, or the factory's: it is in C. The numbers I12 .. I15 are
-- those of docs/PROMISE.md. Assumes nothing.
use Prim.Native.Nat.{ℕ}
use mathlib.Core.Path.{◌≡◌, refl}
use mathlib.Core.Bool.{Bool}
use mathlib.Core.Logic.{⊎_elim}
use Rattle.promise.specs.Names.{Entry}
use Rattle.cabinet.specs.Entries.{factory_entry}
use Rattle.promise.specs.Events.{Kind, read, writes, reads, Event, chosen, finished}
use Rattle.promise.proofs.View.{Phase, idle, gone, first, second, offer, entry_is, View, at, Hears, Act, begin, hear, choose, find, count, finish, leave, Move, radio, client}

-- a write's first part hears stamps alone, so its best is no entry that anyone chose
abbrev pub KnownAt : (Entry → Type 0) → Phase → Type 0
KnownAt C idle = Unit
KnownAt C gone = Unit
KnownAt C (first (writes r) H D b) = Unit
KnownAt C (first reads H D b) = C b
KnownAt C (second k H e) = C e

pub record Known (C : Entry → Type 0) (v : View) : Type 0 where
  -- I12: every entry that a cabinet holds, as its present one or an older version, is known
  pub held : (p : ℕ) (e : Entry) → v.holds p e → C e
  -- I13: every entry offered on the air is known
  pub offered : (c n p : ℕ) (e : Entry) → v.air c n p (offer e) → C e
  -- I14: every entry told on the air is known
  pub told : (c n p : ℕ) (e : Entry) (x : Bool) → v.air c n p (entry_is e x) → C e
  -- I15: the entry that a read has heard and the entry that a second part offers are known
  pub clients : (c : ℕ) → KnownAt C (v.client c).phase

module _ (Quorum : (ℕ → Bool) → Type 0) (C C' : Entry → Type 0) (up : (e : Entry) → C e → C' e) (made : C' factory_entry) where
  known_up : (f : Phase) → KnownAt C f → KnownAt C' f
  known_up idle h = tt
  known_up gone h = tt
  known_up (first (writes r) H D b) h = tt
  known_up (first reads H D b) h = up b h
  known_up (second k H e) h = up e h

  -- what a read has heard, with the reply that is heard now
  known_read : {v : View} (c n : ℕ) (H D H' D' : ℕ → Bool) (b b' : Entry) → Known C v → v.client c ≡ at n (first reads H D b)
      → Hears v c n read H D b H' D' b' → C' b'
  known_read c n H D H' D' b b' K x y =
      up b' (⊎_elim (λ q. rw q (rw x at (K.clients c))) (λ q. rw q (K.told c n y.from y.said y.doubt y.aired)) y.either)

  known_act : {v w : View} {c : ℕ} {l : Event} → ((e : Entry) (d m : ℕ) → l ≡ chosen d m e → C' e) → Known C v → Act Quorum v w c l
      → KnownAt C' (w.client c).phase
  known_act ch K (begin n (writes r) D a b) = rw b tt
  known_act ch K (begin n reads D a b) = rw b made
  known_act ch K (hear n (writes r) H D H' D' b b' x y t) = rw t tt
  known_act {c = c} ch K (hear n reads H D H' D' b b' x y t) = rw t (known_read c n H D H' D' b b' K x y)
  known_act {c = c} ch K (choose n H D H' D' b b' e x y z u t) = rw t (ch e c n refl)
  known_act {c = c} ch K (find n H D H' D' b b' x y z t) = rw t (known_read c n H D H' D' b b' K x y)
  known_act {c = c} ch K (count n k H H' e x y t) = rw t (up e (rw x at (K.clients c)))
  known_act ch K (finish n k H H' e x y z t) = rw t tt
  known_act ch K (leave t) = rw t tt

  pub known_move : {v w : View} {l : Event} → ((e : Entry) (d m : ℕ) → l ≡ chosen d m e → C' e) → Move Quorum v w l → Known C v → Known C' w
  known_move {v} {w} ch (radio g s a o) K =
      record {
        held = λ p e h. ⊎_elim (λ x. up e (K.held p e x)) (⊎_elim (λ x. up e (K.offered x.0 x.1 p e x.2)) (λ x. rw x made)) (s p e h);
        offered = λ c n p e h. up e (⊎_elim (K.offered c n p e) (λ x. rw x.2 at (K.clients c)) (a c n p (offer e) h));
        told = λ c n p e i h. up e (⊎_elim (K.told c n p e i) (λ x. K.held p e x.3) (a c n p (entry_is e i) h));
        clients = λ c. rw (o c) (known_up (v.client c).phase (K.clients c));
      }
  known_move {v} {w} ch (client c g s a o m) K =
      record {
        held = λ p e h. up e (K.held p e (s p e h));
        offered = λ d n p e h. up e (K.offered d n p e (a d n p (offer e) h));
        told = λ d n p e i h. up e (K.told d n p e i (a d n p (entry_is e i) h));
        clients = λ d. ⊎_elim (λ e. rw e (known_act ch K m)) (λ e. rw e (known_up (v.client d).phase (K.clients d))) (o d);
      }

pub known_finish : {Quorum : (ℕ → Bool) → Type 0} {C : Entry → Type 0} {v w : View} {c n : ℕ} {k : Kind} {e : Entry} → Known C v
    → Move Quorum v w (finished c n k e) → C e
known_finish K (client c g h a o (finish n k H H' e x y z t)) = rw x at (K.clients c)
