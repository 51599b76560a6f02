-- One client's operations come one after the other: what it chose stands until that operation ends, and is then below its later choices.
-- Assumes nothing.
use Prim.Native.Nat.{ℕ, ◌+◌, ◌<◌}
use mathlib.Core.Path.{◌≡◌, refl, subst}
use mathlib.Core.Bool.{Bool}
use mathlib.Core.Logic.{◌⊎◌, inl, inr, ⊎_elim}
use native.Mathlib.Omega.{arith}
use Rattle.promise.specs.Names.{Entry, Stamp}
use Rattle.promise.specs.Events.{Event, chosen}
use Rattle.promise.proofs.Stamps.{◌⊏◌}
use Rattle.promise.proofs.View.{Phase, idle, gone, first, second, View, Act, begin, hear, choose, find, count, finish, leave, Move, radio, client}
use Rattle.promise.proofs.Acknowledged.{Acknowledged}
use Rattle.promise.proofs.Lasting.{Lasting, lasting_start, lasting_move, lasting_choose}

module _ (Quorum : (ℕ → Bool) → Type 0) where
  -- an operation that ended with stamp s, before client c's operation n began
  abbrev Done : ℕ → Stamp → View → ℕ → Type 0
  Done c s v n = (W : ℕ → Bool) × (since : ℕ → ℕ) × Quorum W × Lasting s W since v × (since c < n)

  -- where client c may be after it chose s
  abbrev OwnChoiceAt : ℕ → Stamp → View → ℕ → Phase → Type 0
  OwnChoiceAt c s v n idle = Done c s v (n + 1)
  OwnChoiceAt c s v n gone = Unit
  OwnChoiceAt c s v n (first k H D b) = Done c s v n
  OwnChoiceAt c s v n (second k H e) = (e.stamp ≡ s) ⊎ Done c s v n

  -- I11: after client c chose s, its second part offers s until that operation ends; then s lasts (I8 .. I10) before its later operations
  abbrev pub OwnChoice : ℕ → Stamp → View → Type 0
  OwnChoice c s v = OwnChoiceAt c s v (v.client c).number (v.client c).phase

  module _ {v w : View} {l : Event} (t : Move Quorum v w l) (c : ℕ) (s : Stamp) where
    done_step : (n : ℕ) → Done c s v n → Done c s w n
    done_step n d = (d.0, d.1, d.2, lasting_move Quorum s d.0 d.2 d.1 t d.3, d.4)

    own_same : (n : ℕ) (f : Phase) → OwnChoiceAt c s v n f → OwnChoiceAt c s w n f
    own_same n idle h = done_step (n + 1) h
    own_same n gone h = tt
    own_same n (first k H D b) h = done_step n h
    own_same n (second k H e) h = ⊎_elim inl (λ d. inr (done_step n d)) h

  own_act : {v w : View} {l : Event} (t : Move Quorum v w l) (c : ℕ) (s : Stamp) → Acknowledged v → Act Quorum v w c l → OwnChoice c s v
      → OwnChoice c s w
  own_act t c s B (begin n k D a b) h = rw b (done_step t c s (n + 1) (rw a at h))
  own_act t c s B (hear n k H D H' D' b b' x y r) h = rw r (done_step t c s n (rw x at h))
  own_act t c s B (choose n H D H' D' b b' e x y z u r) h = rw r (inr (done_step t c s n (rw x at h)))
  own_act t c s B (find n H D H' D' b b' x y z r) h = rw r (inr (done_step t c s n (rw x at h)))
  own_act t c s B (count n k H H' e x y r) h = rw r (⊎_elim inl (λ d. inr (done_step t c s n d)) (rw x at h))
  own_act {v} {w} t c s B (finish n k H H' e x y z r) h =
      rw r (⊎_elim ended (λ d. let d' = done_step t c s n d in (d'.0, d'.1, d'.2, d'.3, omega arith)) (rw x at h))
    where
      ended : e.stamp ≡ s → Done c s w (n + 1)
      ended q =
          let d = lasting_start Quorum B t in
          (d.0, (λ i. (w.client i).number), d.1, subst (λ i. Lasting i d.0 (λ j. (w.client j).number) w) q d.2, rw r (omega arith))
  own_act t c s B (leave r) h = rw r tt

  pub own_move : {v w : View} {l : Event} (t : Move Quorum v w l) (c : ℕ) (s : Stamp) → Acknowledged v → OwnChoice c s v → OwnChoice c s w
  own_move {v} (radio g x a o) c s B h = rw (o c) (own_same (radio g x a o) c s (v.client c).number (v.client c).phase h)
  own_move {v} {w} (client d g x a o m) c s B h =
      ⊎_elim (λ e. own_act (client d g x a o m) c s B (rw (← e) at m) h)
      (λ e. rw e (own_same (client d g x a o m) c s (v.client c).number (v.client c).phase h)) (o c)

  pub own_start : {v w : View} {c n : ℕ} {e : Entry} → Move Quorum v w (chosen c n e) → OwnChoice c e.stamp w
  own_start (client c g h a o (choose n H D H' D' b b' e x y z u t)) = rw t (inl refl)

  pub own_choose : {v w : View} {c n : ℕ} {e : Entry} (s : Stamp) → Move Quorum v w (chosen c n e) → OwnChoice c s v → s ⊏ e.stamp
  own_choose {v} s (client c g h a o (choose n H D H' D' b b' e x y z u t)) q =
      let d : Done c s v n = rw x at q in
      lasting_choose Quorum s d.0 d.2 d.1 d.3 (client c g h a o (choose n H D H' D' b b' e x y z u t)) d.4
