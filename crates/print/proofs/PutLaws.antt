-- Laws of bytes put into a buffer: one byte, and one text behind another. Assumes nothing.
use Prim.Native.Nat.{ℕ, ◌+◌, ◌<◌, ◌≤◌}
use native.Mathlib.Numerals.{add-one}
use native.Mathlib.Omega.{arith}
use native.Mathlib.Nat.{add-zero}
use mathlib.Core.List.{List, [], ◌∷◌, ◌++◌, append_assoc, append-nil}
use mathlib.Core.Path.{◌≡◌, sym, ◌∙◌}
use lib.ListN.{length, set, take, length-append, length-drop, take-append-drop}
use lib.Seq.{length-take-le, set_split, take_at, drop-append-add, drop-drop}
use Rattle.print.specs.Put.{put, Wrote}

-- for a caller that puts row behind row: where it begins, and the buffer's length
pub put_none : (d : List ℕ) (at : ℕ) → d ≡ put d at []
unfolding put
put_none d at = simp (append-nil, add-zero) (sym (take-append-drop at d))

pub length_put : (d : List ℕ) (at : ℕ) (s : List ℕ) → at + length s ≤ length d → length (put d at s) ≡ length d
unfolding put
length_put d at s h = simp (length-append, length-drop) (let k : length (take at d) ≡ at = length-take-le at d (omega arith) in omega arith)

-- one byte
pub put_one : (d : List ℕ) (at b : ℕ) → at < length d → set d at b ≡ put d at (b ∷ [])
unfolding put
put_one d at b h = set_split d at b h ∙ simp (append_assoc, add-one)

put_put : (d : List ℕ) (at : ℕ) (s t : List ℕ) → at ≤ length d → put (put d at s) (at + length s) t ≡ put d at (s ++ t)
unfolding put
put_put d at s t h = grind (arith, length-take-le at d, take_at, drop-append-add, drop-drop, length-append, append_assoc)

-- `s` and then `t` is the two together
pub after : {e f : List ℕ} {at r q : ℕ} (d s t : List ℕ)
    → Wrote d at s e r → Wrote e r t f q → at ≤ length d → Wrote d at (s ++ t) f q
after d s t p u h = (u.0 ∙ rw (p.0, p.1) (put_put d _ s t h), omega (arith, p.1, u.1, length-append s t))

-- the same bytes, written otherwise
pub same : {e s t : List ℕ} {r : ℕ} (d : List ℕ) (at : ℕ) → s ≡ t → Wrote d at s e r → Wrote d at t e r
same d at q p = rw (← q) p

-- what is written decides the buffer and the place
pub agree : {e e' : List ℕ} {r r' : ℕ} (d : List ℕ) (at : ℕ) (s : List ℕ)
    → Wrote d at s e r → Wrote d at s e' r' → (r ≡ r') × (e ≡ e')
agree d at s p q = (p.1 ∙ sym q.1, p.0 ∙ sym q.0)
