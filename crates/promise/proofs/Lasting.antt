-- What a finished operation leaves behind: its write quorum W stays safe at its stamp s, and every operation that begins later hears of
-- s. `since c` is the number of client c's last operation when the earlier one ended, so c's later operations are those above it.
-- The numbers I8 .. I10 are those of docs/PROMISE.md. Assumes nothing.
use Prim.Native.Nat.{ℕ, ◌<◌}
use mathlib.Core.Path.{◌≡◌}
use mathlib.Core.Bool.{Bool, true, false≢true}
use mathlib.Core.Logic.{◌⊎◌, inl, inr, ⊎_elim}
use native.Mathlib.Nat.{lt_irrefl, lt_of_le_of_lt}
use native.Mathlib.Omega.{arith}
use Rattle.promise.specs.Names.{Entry, Stamp}
use Rattle.promise.specs.Events.{Kind, write, read, Event, chosen, finished, Aim, writes, reads, kind_of}
use Rattle.promise.proofs.Stamps.{◌⊑◌, ◌⊏◌, ⊑_trans, ⊑-counter}
use Rattle.promise.proofs.View.{Phase, idle, gone, first, second, Talk, ask, offer, stamp_is, entry_is, ack, View, at, Safe, Grow, Answers, New, tells, Hears, Meets, Above, Act, begin, hear, choose, find, count, finish, leave, Move, radio, client, safe_grow}
use Rattle.promise.proofs.Acknowledged.{Acknowledged, counted_safe, acknowledged_move}

-- a later write is above, a later read at least level
abbrev pub After : Kind → Stamp → Stamp → Type 0
After write s t = s ⊏ t
After read s t = s ⊑ t

-- a stamp told is at least s, or it was told in doubt by a weak cabinet
abbrev Level : Stamp → Stamp → Bool → Bool → Type 0
Level s t doubt weak = (s ⊑ t) ⊎ ((doubt ≡ true) × (weak ≡ true))

-- what a message tells, if it is a reply with a stamp
abbrev pub Tells : Stamp → Bool → Talk → Type 0
Tells s weak ask = Unit
Tells s weak (offer e) = Unit
Tells s weak (stamp_is t x) = Level s t x weak
Tells s weak (entry_is e x) = Level s e.stamp x weak
Tells s weak ack = Unit

-- where a later operation may be
abbrev pub LastingAt : View → Stamp → (ℕ → Bool) → Phase → Type 0
LastingAt v s W idle = Unit
LastingAt v s W gone = Unit
LastingAt v s W (first k H D b) = (p : ℕ) → W p ≡ true → H p ≡ true → Level s b.stamp (D p) (v.weak p)
LastingAt v s W (second k H e) = After k s e.stamp

pub record Lasting (s : Stamp) (W : ℕ → Bool) (since : ℕ → ℕ) (v : View) : Type 0 where
  -- I8: every cabinet of W is safe at s
  pub safe : (p : ℕ) → W p ≡ true → Safe v p s
  -- I9: a reply on the air to a later operation, from a cabinet of W, tells at least s, or was told in doubt by a weak cabinet
  pub told : (c n p : ℕ) (m : Talk) → v.air c n p m → since c < n → W p ≡ true → Tells s (v.weak p) m
  -- I10: a later operation's first part has, of each cabinet of W that it heard, at least s, or heard it in doubt and it is weak; its
  -- second part offers at least s, and more if it is a write
  pub clients : (c : ℕ) → since c < (v.client c).number → LastingAt v s W (v.client c).phase

level_grow : {v w : View} (g : Grow v w) (s t : Stamp) (x : Bool) (p : ℕ) → Level s t x (v.weak p) → Level s t x (w.weak p)
level_grow g s t x p h = ⊎_elim inl (λ y. inr (y.0, g.weak_on p y.1)) h

tells_grow : {v w : View} (g : Grow v w) (s : Stamp) (p : ℕ) (m : Talk) → Tells s (v.weak p) m → Tells s (w.weak p) m
tells_grow g s p ask h = tt
tells_grow g s p (offer e) h = tt
tells_grow g s p (stamp_is t x) h = level_grow g s t x p h
tells_grow g s p (entry_is e x) h = level_grow g s e.stamp x p h
tells_grow g s p ack h = tt

lasting_grow : {v w : View} (g : Grow v w) (s : Stamp) (W : ℕ → Bool) (f : Phase) → LastingAt v s W f → LastingAt w s W f
lasting_grow g s W idle h = tt
lasting_grow g s W gone h = tt
lasting_grow g s W (first k H D b) h = λ p x y. level_grow g s b.stamp (D p) p (h p x y)
lasting_grow g s W (second k H e) h = h

-- an answer of a cabinet that is safe at s
answer : (v : View) (s t : Stamp) (p : ℕ) (x : Bool) → v.stamp p ≡ t → Answers v p x → Safe v p s → Level s t x (v.weak p)
answer v s t p x e q (inl h) = inl (rw e at h)
answer v s t p x e q (inr h) = inr (q h)

tells_level : (s : Stamp) (weak : Bool) (k : Kind) (e : Entry) (x : Bool) → Tells s weak (tells k e x) → Level s e.stamp x weak
tells_level s weak write e x h = h
tells_level s weak read e x h = h

module _ (Quorum : (ℕ → Bool) → Type 0) where
  -- the end of an operation: what it leaves
  pub lasting_start : {v w : View} {c n : ℕ} {k : Kind} {e : Entry} → Acknowledged v → Move Quorum v w (finished c n k e)
      → (W : ℕ → Bool) × Quorum W × Lasting e.stamp W (λ d. (w.client d).number) w
  lasting_start {v} {w} B (client c g s a o (finish n k H H' e x y z t)) = (
    H',
    z,
    record {
      safe = counted_safe c n k H H' e B g x y;
      told = λ d i p m h l. absurd (lt_irrefl i (lt_of_le_of_lt
          ((acknowledged_move Quorum (client c g s a o (finish n k H H' e x y z t)) B).numbers d i p m h) l));
      clients = λ d l. absurd (lt_irrefl (w.client d).number l);
    },
  )

  module _ (s : Stamp) (W : ℕ → Bool) (quorum : Quorum W) (since : ℕ → ℕ) where
    -- what a later operation has heard, with the reply that is heard now
    heard_lasting : {v : View} (c n : ℕ) (k : Aim) (H D H' D' : ℕ → Bool) (b b' : Entry) → Lasting s W since v
        → v.client c ≡ at n (first k H D b)
        → Hears v c n (kind_of k) H D b H' D' b' → since c < n → (q : ℕ) → W q ≡ true → H' q ≡ true → Level s b'.stamp (D' q) (v.weak q)
    heard_lasting {v} c n k H D H' D' b b' L x y l q i j = go (y.plus q j)
      where
        go : (q ≡ y.from) ⊎ (H q ≡ true) → Level s b'.stamp (D' q) (v.weak q)
        go (inl e) = rw e (⊎_elim (λ a. inl (⊑_trans a y.topped)) (λ a. inr (y.doubted a.0, a.1))
            (tells_level s (v.weak y.from) (kind_of k) y.said y.doubt (L.told c n y.from _ y.aired l (rw e at i))))
        go (inr h) = ⊎_elim (λ a. inl (⊑_trans a (y.kept q h))) (λ a. inr (y.doubts q a.0, a.1)) ((rw x at (L.clients c)) l q i h)

    -- a first part that meets W has heard of s
    heard_of : (v : View) (H D : ℕ → Bool) (b : Entry) → Meets Quorum v H D
        → ((p : ℕ) → W p ≡ true → H p ≡ true → Level s b.stamp (D p) (v.weak p)) → s ⊑ b.stamp
    heard_of v H D b m h = let q = m W quorum in ⊎_elim (λ x. x) (λ x. absurd (q.3 x)) (h q.0 q.1 q.2)

    above : (c : ℕ) (b e : Entry) → Above c b e → s ⊑ b.stamp → s ⊏ e.stamp
    above c b e z h = rw z (inl (omega (arith, ⊑-counter h)))

    lasting_radio : {v w : View} → Grow v w → ((c n p : ℕ) (m : Talk) → w.air c n p m → v.air c n p m ⊎ New v w c n p m)
        → ((c : ℕ) → w.client c ≡ v.client c) → Lasting s W since v → Lasting s W since w
    lasting_radio {v} {w} g a o L =
        record {
          safe = λ p h. safe_grow g p (L.safe p h);
          told = λ c n p m h l x. tells_grow g s p m (⊎_elim (λ k. L.told c n p m k l x) (λ k. new c n p m x k) (a c n p m h));
          clients = λ c. rw (o c) (λ l. lasting_grow g s W (v.client c).phase (L.clients c l));
        }
      where
        new : (c n p : ℕ) (m : Talk) → W p ≡ true → New v w c n p m → Tells s (v.weak p) m
        new c n p ask x k = tt
        new c n p (offer e) x k = tt
        new c n p (stamp_is t y) x k = answer v s t p y k.1 k.2 (L.safe p x)
        new c n p (entry_is e y) x k = answer v s e.stamp p y k.1 k.2 (L.safe p x)
        new c n p ack x k = tt

    -- a later operation of c, through a move of c
    lasting_act : {v w : View} {c : ℕ} {l : Event} → Grow v w → Lasting s W since v → Act Quorum v w c l
        → since c < (w.client c).number → LastingAt w s W (w.client c).phase
    lasting_act g L (begin n k D a b) = rw b (λ l p x y. absurd (false≢true y))
    lasting_act {v} {w} {c} g L (hear n k H D H' D' b b' x y t) =
        rw t (λ l. lasting_grow g s W (first k H' D' b') (heard_lasting c n k H D H' D' b b' L x y l))
    lasting_act {v} {w} {c} g L (choose n H D H' D' b b' e x y z u t) =
        rw t (λ l. above c b' e u (heard_of v H' D' b' z (heard_lasting c n (writes e.reading) H D H' D' b b' L x y l)))
    lasting_act {v} {w} {c} g L (find n H D H' D' b b' x y z t) =
        rw t (λ l. heard_of v H' D' b' z (heard_lasting c n reads H D H' D' b b' L x y l))
    lasting_act {v} {w} {c} g L (count n k H H' e x y t) = rw t (rw x at (L.clients c))
    lasting_act g L (finish n k H H' e x y z t) = rw t (λ l. tt)
    lasting_act g L (leave t) = rw t (λ l. tt)

    pub lasting_move : {v w : View} {l : Event} → Move Quorum v w l → Lasting s W since v → Lasting s W since w
    lasting_move (radio g x a o) L = lasting_radio g a o L
    lasting_move {v} {w} (client c g h a o m) L =
        record {
          safe = λ p x. safe_grow g p (L.safe p x);
          told = λ d n p b x l y. tells_grow g s p b (L.told d n p b (a d n p b x) l y);
          clients = λ d. ⊎_elim (λ e. rw e (lasting_act g L m)) (λ e. rw e (λ l. lasting_grow g s W (v.client d).phase (L.clients d l))) (o d);
        }

    -- a later operation that ends is at least level, and a write above; so is a stamp that a later write chooses
    pub lasting_finish : {v w : View} {c n : ℕ} {k : Kind} {e : Entry} → Lasting s W since v → Move Quorum v w (finished c n k e)
        → since c < n
        → After k s e.stamp
    lasting_finish L (client c g h a o (finish n k H H' e x y z t)) l = (rw x at (L.clients c)) l

    pub lasting_choose : {v w : View} {c n : ℕ} {e : Entry} → Lasting s W since v → Move Quorum v w (chosen c n e) → since c < n
        → s ⊏ e.stamp
    lasting_choose {v} L (client c g h a o (choose n H D H' D' b b' e x y z u t)) l =
        above c b' e u (heard_of v H' D' b' z (heard_lasting c n (writes e.reading) H D H' D' b b' L x y l))
