-- Laws of the two scans: one for each way that a turn of that for a free slot can go, and what is counted of the marked cabinets. Assumes nothing.
use Rattle.std.proofs.Common.{ℕ, zero, suc, ◌+◌, ◌≡◌, ◌≤◌, Bool, true, false, cond, not, ◌&&◌, List, [], ◌∷◌, length, get_or, drop, refl, arith, add-one, eqb}
use Rattle.std.specs.List.{filter, enumerate_from}
use lib.ListN.{drop_of_length-le}
use lib.Seq.{drop-nil}
use Rattle.types.specs.Parts.{empty_slot}
use Rattle.run.specs.Names.{Cabinet, Slot}
use Rattle.run.specs.Gather.{is_empty, first_from, others_from}

pub first_end : (l : List Slot) (i : ℕ) → length l ≤ i → first_from i (drop i l) ≡ i
unfolding first_from
first_end l i h = rw (drop_of_length-le l {i = i} h)

-- past the end a slot counts as free, so that neither of these asks for the list's length
pub first_here : (l : List Slot) (i k : ℕ) → is_empty (get_or l i empty_slot).held ≡ true → first_from k (drop i l) ≡ k
unfolding first_from
first_here [] i k e = rw (drop-nil {A = Slot} i)
first_here (t ∷ l) zero k e = rw e
first_here (t ∷ l) (suc i) k e = first_here l i k e

next : (l : List Slot) (i k : ℕ) → is_empty (get_or l i empty_slot).held ≡ false → first_from k (drop i l) ≡ first_from (suc k) (drop (suc i) l)
unfolding first_from
next [] i k e = cc
next (t ∷ l) zero k e = rw e
next (t ∷ l) (suc i) k e = next l i k e

pub first_next : (l : List Slot) (i k : ℕ) → is_empty (get_or l i empty_slot).held ≡ false
    → first_from k (drop i l) ≡ first_from (k + 1) (drop (i + 1) l)
first_next l i k e = rw (add-one, add-one) (next l i k e)

-- the cabinets at other places than p that are marked
abbrev pub other : ℕ → ℕ × Cabinet → Bool
other p q = not (eqb q.0 p) && q.1.marked

pub others_are : (p i : ℕ) (l : List Cabinet) → length (filter (other p) (enumerate_from i l)) ≡ others_from p i l
unfolding others_from
others_are p i [] = refl
others_are p i (k ∷ l) = grind (arith, add-one, others_are p (suc i) l)
