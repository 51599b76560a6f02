-- What an acknowledgement is worth in every reached view: its cabinet is safe at the stamp offered, while it is on the air and once it is
-- counted. The numbers I4 .. I7 are those of docs/PROMISE.md.
-- Assumes nothing.
use Prim.Native.Nat.{ℕ, ◌≤◌}
use mathlib.Core.Path.{◌≡◌, refl}
use mathlib.Core.Bool.{Bool, true, false≢true}
use mathlib.Core.Logic.{◌⊎◌, inl, inr, ⊎_elim}
use native.Mathlib.Nat.{le_refl, le_trans}
use native.Mathlib.Omega.{arith}
use Rattle.promise.specs.Names.{Entry}
use Rattle.promise.specs.Events.{Kind, Event, Aim, writes, reads}
use Rattle.promise.proofs.View.{Phase, idle, gone, first, second, Talk, ask, offer, stamp_is, entry_is, ack, View, at, Safe, Grow, New, Counts, Act, begin, hear, choose, find, count, finish, leave, Move, radio, client, safe_grow}

-- an offer under the client's present operation number: it is what the second part offers; a first part has made none
abbrev pub OfferStands : Entry → Phase → Type 0
OfferStands e idle = Unit
OfferStands e gone = Unit
OfferStands e (first k H D b) = ⊥
OfferStands e (second k H b) = e ≡ b

-- an acknowledgement under it: its cabinet is safe at the stamp offered
abbrev pub AckSafe : View → ℕ → Phase → Type 0
AckSafe v p idle = Unit
AckSafe v p gone = Unit
AckSafe v p (first k H D b) = ⊥
AckSafe v p (second k H b) = Safe v p b.stamp

-- the cabinets counted in a second part
abbrev pub HeardSafe : View → Phase → Type 0
HeardSafe v idle = Unit
HeardSafe v gone = Unit
HeardSafe v (first k H D b) = Unit
HeardSafe v (second k H b) = (p : ℕ) → H p ≡ true → Safe v p b.stamp

pub record Acknowledged (v : View) : Type 0 where
  -- I4: no message on the air has an operation number above its client's
  pub numbers : (c n p : ℕ) (m : Talk) → v.air c n p m → n ≤ (v.client c).number
  -- I5: an offer under its client's present number is what the client's second part offers
  pub offers : (c n p : ℕ) (e : Entry) → v.air c n p (offer e) → n ≡ (v.client c).number → OfferStands e (v.client c).phase
  -- I6: an acknowledgement under its client's present number is of a cabinet that is safe at the stamp offered
  pub acks : (c n p : ℕ) → v.air c n p ack → n ≡ (v.client c).number → AckSafe v p (v.client c).phase
  -- I7: every cabinet counted in a second part is safe at the stamp offered
  pub heard : (c : ℕ) → HeardSafe v (v.client c).phase

ack_grow : {v w : View} → Grow v w → (p : ℕ) (f : Phase) → AckSafe v p f → AckSafe w p f
ack_grow g p idle h = tt
ack_grow g p gone h = tt
ack_grow g p (first k H D b) h = h
ack_grow g p (second k H b) h = safe_grow g p h

heard_grow : {v w : View} → Grow v w → (f : Phase) → HeardSafe v f → HeardSafe w f
heard_grow g idle h = tt
heard_grow g gone h = tt
heard_grow g (first k H D b) h = tt
heard_grow g (second k H b) h = λ p x. safe_grow g p (h p x)

-- a message that is new comes from one under a number no greater, or from the client itself
new_numbers : {v : View} (w : View) → Acknowledged v → (c n p : ℕ) (m : Talk) → New v w c n p m → n ≤ (v.client c).number
new_numbers w B c n p ask h = omega arith
new_numbers w B c n p (offer e) h = rw h.2 (le_refl n)
new_numbers w B c n p (stamp_is s x) h = B.numbers c n p ask h.0
new_numbers w B c n p (entry_is e x) h = B.numbers c n p ask h.0
new_numbers w B c n p ack h = B.numbers c n p (offer h.0) h.1

-- the acknowledgement of an offer that stands
ack_new : (w : View) (p : ℕ) (e : Entry) (f : Phase) → Safe w p e.stamp → OfferStands e f → AckSafe w p f
ack_new w p e idle s h = tt
ack_new w p e gone s h = tt
ack_new w p e (first k H D b) s h = h
ack_new w p e (second k H b) s h = rw h at s

-- the cabinets counted in a second part, with the one that is heard now
pub counted_safe : {v w : View} (c n : ℕ) (k : Kind) (H H' : ℕ → Bool) (e : Entry) → Acknowledged v → Grow v w
    → v.client c ≡ at n (second k H e)
    → Counts v c n H H' → (q : ℕ) → H' q ≡ true → Safe w q e.stamp
counted_safe {v} {w} c n k H H' e B g x y q h = go (y.plus q h)
  where
    go : (q ≡ y.from) ⊎ (H q ≡ true) → Safe w q e.stamp
    go (inl i) = rw i (safe_grow g y.from ((rw x at (B.acks c n y.from y.aired)) refl))
    go (inr i) = safe_grow g q ((rw x at (B.heard c)) q i)

module _ (Quorum : (ℕ → Bool) → Type 0) where
  -- no act lowers an operation number
  pub number_up : {v w : View} {c : ℕ} {l : Event} → Act Quorum v w c l → (v.client c).number ≤ (w.client c).number
  number_up (begin n k D a b) = rw (a, b) (omega arith)
  number_up (hear n k H D H' D' b b' x y t) = rw (x, t) (le_refl n)
  number_up (choose n H D H' D' b b' e x y z u t) = rw (x, t) (le_refl n)
  number_up (find n H D H' D' b b' x y z t) = rw (x, t) (le_refl n)
  number_up (count n k H H' e x y t) = rw (x, t) (le_refl n)
  number_up (finish n k H H' e x y z t) = rw (x, t) (le_refl n)
  number_up {v} {w} {c} (leave t) = rw t (le_refl (v.client c).number)

  -- what is said of a message under the client's operation number, through an act of the client
  due : {v w : View} {c : ℕ} {l : Event} (Q Q' : Phase → Type 0) → ((q : Aim) (H D : ℕ → Bool) (b : Entry) → Q (first q H D b) → ⊥)
      → ((k : Kind) (H H' : ℕ → Bool) (b : Entry) → Q (second k H b) → Q' (second k H' b)) → Q' idle → Q' gone
      → Act Quorum v w c l → (n : ℕ) → n ≤ (v.client c).number → (n ≡ (v.client c).number → Q (v.client c).phase)
      → n ≡ (w.client c).number → Q' (w.client c).phase
  due Q Q' no₁ same i g (begin n k D a b) j h q = rw b (λ e. absurd (omega (arith, rw a at h)))
  due Q Q' no₁ same i g (hear n k H D H' D' b b' x y t) j h q = rw t (λ d. absurd (no₁ k H D b ((rw x at q) d)))
  due Q Q' no₁ same i g (choose n H D H' D' b b' e x y z u t) j h q = rw t (λ d. absurd (no₁ (writes e.reading) H D b ((rw x at q) d)))
  due Q Q' no₁ same i g (find n H D H' D' b b' x y z t) j h q = rw t (λ d. absurd (no₁ reads H D b ((rw x at q) d)))
  due Q Q' no₁ same i g (count n k H H' e x y t) j h q = rw t (λ d. same k H H' e ((rw x at q) d))
  due Q Q' no₁ same i g (finish n k H H' e x y z t) j h q = rw t (λ d. i)
  due Q Q' no₁ same i g (leave t) j h q = rw t (λ d. g)

  heard_act : {v w : View} {c : ℕ} {l : Event} → Acknowledged v → Grow v w → Act Quorum v w c l → HeardSafe w (w.client c).phase
  heard_act B g (begin n k D a b) = rw b tt
  heard_act B g (hear n k H D H' D' b b' x y t) = rw t tt
  heard_act B g (choose n H D H' D' b b' e x y z u t) = rw t (λ p q. absurd (false≢true q))
  heard_act B g (find n H D H' D' b b' x y z t) = rw t (λ p q. absurd (false≢true q))
  heard_act B g (finish n k H H' e x y z t) = rw t tt
  heard_act B g (leave t) = rw t tt
  heard_act {c = c} B g (count n k H H' e x y t) = rw t (counted_safe c n k H H' e B g x y)

  pub acknowledged_move : {v w : View} {l : Event} → Move Quorum v w l → Acknowledged v → Acknowledged w
  acknowledged_move {v} {w} (radio g s a o) B =
      record {
        numbers = λ c n p m h. rw (o c) (⊎_elim (B.numbers c n p m) (new_numbers w B c n p m) (a c n p m h));
        offers = λ c n p e h. rw (o c) (⊎_elim (B.offers c n p e) (λ k q. rw k.2 refl) (a c n p (offer e) h));
        acks = λ c n p h. rw (o c) (⊎_elim (λ k q. ack_grow g p (v.client c).phase (B.acks c n p k q))
            (λ k q. ack_new w p k.0 (v.client c).phase k.2 (B.offers c n p k.0 k.1 q)) (a c n p ack h));
        heard = λ c. rw (o c) (heard_grow g (v.client c).phase (B.heard c));
      }
  acknowledged_move {v} {w} (client c {l = l} g s a o m) B =
      record {
        numbers = λ d n p b h. ⊎_elim (λ e. rw e (le_trans (rw e at (B.numbers d n p b (a d n p b h))) (number_up m)))
            (λ e. rw e (B.numbers d n p b (a d n p b h))) (o d);
        offers = λ d n p b h. ⊎_elim
            (λ e. rw e (due (OfferStands b) (OfferStands b) (λ k H D x y. y) (λ k H H' x y. y) tt tt m n
            (rw e at (B.numbers d n p (offer b) (a d n p (offer b) h))) (rw e at (B.offers d n p b (a d n p (offer b) h)))))
            (λ e. rw e (B.offers d n p b (a d n p (offer b) h))) (o d);
        acks = λ d n p h. ⊎_elim
            (λ e. rw e (due (AckSafe v p) (AckSafe w p) (λ k H D x y. y) (λ k H H' x y. safe_grow g p y) tt tt m n
            (rw e at (B.numbers d n p ack (a d n p ack h))) (rw e at (B.acks d n p (a d n p ack h)))))
            (λ e. rw e (λ q. ack_grow g p (v.client d).phase (B.acks d n p (a d n p ack h) q))) (o d);
        heard = λ d. ⊎_elim (λ e. rw e (heard_act B g m)) (λ e. rw e (heard_grow g (v.client d).phase (B.heard d))) (o d);
      }
