-- Laws of readings, and of the write rows that have them. Assumes nothing.
use Prim.Native.Nat.{ℕ, ◌+◌, ◌<◌, ◌≤◌}
use native.Mathlib.Omega.{arith}
use mathlib.Core.Bool.{Bool, true, false, cond, ◌&&◌, and-true, and-false, and-eq-true_iff}
use mathlib.Core.List.{List, [], ◌∷◌, ◌++◌}
use mathlib.Core.Path.{◌≡◌, refl, sym, ◌∙◌, ap}
use lib.ListN.{length}
use lib.Dec.{eqb}
use lib.Pointwise.{pointwise}
use Rattle.text.specs.Names.{Kind, Reading}
use Rattle.std.specs.Prelude.{Option, Some, None}
use Rattle.std.specs.Bool.{then_some}
use Rattle.text.specs.Fields.{same, split, byte_of}
use Rattle.text.specs.Pieces.{begins, first, after, byte_at, minutes_in, reading_in}
use Rattle.text.specs.Rows.{says_if, open_by, reading_of, write_by, row_by, row_as}
use Rattle.text.specs.Words.{word_open, word_closed, word_unknown}
use Rattle.text.proofs.BytesLaws.{same_is, same_by}
use Rattle.text.proofs.FieldLaws.{from, others, more, split_is, others_some, after_some, unused, commas, plain, whole, begins_word, more_yes, more_no, from_is}
use Rattle.text.proofs.PairLaws.{byte_told_none, byte_told, told_others, told_last}
use Rattle.text.proofs.StepLaws.{field_unused}

-- ---- readings

open_no : (x : Option ℕ) → open_by x false ≡ None
open_no None = refl
open_no (Some m) = refl

minutes_fields : (m : List ℕ) (fs : List (List ℕ)) → minutes_in (m ∷ fs) ≡ open_by (byte_of m) (unused 1 fs)
unfolding minutes_in unused
minutes_fields m [] = sym (open_no (byte_of m))
minutes_fields m (e ∷ []) = simp and-true
minutes_fields m (e ∷ f ∷ fs) = sym (simp and-false (open_no (byte_of m)))

minutes_row : (s : List ℕ) → minutes_in (split s) ≡ open_by (byte_of (first s)) (unused 1 (others s))
minutes_row s = rw (split_is s) (minutes_fields (first s) (others s))

pub minutes_none : (s : List ℕ) → byte_at s ≡ None → None ≡ minutes_in (split s)
minutes_none s e = sym (minutes_row s ∙ rw (byte_told_none s e))

pub minutes_is : (s : List ℕ) (m n : ℕ) → byte_at s ≡ Some (m, n) → (t : Bool) → t ≡ pointwise eqb (from s n) (44 ∷ [])
    → then_some t (Reading.Open m) ≡ minutes_in (split s)
unfolding commas
minutes_is s m n e t f =
    let b = byte_told s m n e in
    sym (minutes_row s ∙ rw (b.value, field_unused 1 s n b.end, same_by _ _ t f) (go t))
  where
    go : (t : Bool) → says_if t (Reading.Open m) ≡ then_some t (Reading.Open m)
    go true = refl
    go false = refl

-- by the first word, with what `open` makes of the fields behind it, and whether they are empty
abbrev reading_by : List ℕ → Option Reading → Bool → Option Reading
reading_by w m e =
    cond (same w word_open) m
    (cond (same w word_closed) (says_if e Reading.Closed) (cond (same w word_unknown) (says_if e Reading.Unknown) None))

no_reading : (w : List ℕ) (m : Option Reading) (e : Bool) → (same w word_open ≡ true → m ≡ None)
    → (same w word_closed && e) ≡ false → (same w word_unknown && e) ≡ false → reading_by w m e ≡ None
no_reading w m e p q r = go (same w word_open) (same w word_closed) (same w word_unknown) p q r
  where
    go : (o c u : Bool) → (o ≡ true → m ≡ None) → (c && e) ≡ false → (u && e) ≡ false
        → cond o m (cond c (says_if e Reading.Closed) (cond u (says_if e Reading.Unknown) None)) ≡ None
    go true c u p q r = p refl
    go false true u p q r = rw q
    go false false true p q r = rw r
    go false false false p q r = refl

reading_no : (w : List ℕ) → None ≡ reading_by w None false
reading_no w =
    sym (no_reading w None false (λ _. refl) (and-false (same w word_closed)) (and-false (same w word_unknown)))

reading_fields : (w : List ℕ) (fs : List (List ℕ)) → reading_in (w ∷ fs) ≡ reading_by w (minutes_in fs) (unused 2 fs)
unfolding reading_in reading_of minutes_in unused
reading_fields w [] = reading_no w
reading_fields w (m ∷ []) = simp and-false (reading_no w)
reading_fields w (m ∷ e ∷ []) = simp and-true
reading_fields w (m ∷ e ∷ f ∷ fs) = simp and-false (reading_no w)

-- `open,`
module _ (s : List ℕ) (e : begins s (word_open ++ (44 ∷ [])) ≡ true) where
  open_both : (same (first s) word_open ≡ true) × (more s ≡ true)
  unfolding plain
  open_both = (and-eq-true_iff (same (first s) word_open) (more s)).0 (sym (begins_word word_open refl s) ∙ e)

  open_first : first s ≡ word_open
  open_first = same_is (first s) word_open open_both.0

  open_more : length (first s) < length s
  open_more = more_yes s open_both.1

  pub open_fits : 5 ≤ length s
  open_fits = omega (arith, ap length open_first, open_more)

  pub reading_open : minutes_in (split (from s 5)) ≡ reading_in (split s)
  unfolding same
  reading_open =
      let f : after s ≡ from s 5 = after_some s open_more ∙ rw open_first (sym (from_is s 5 open_fits)) in
      sym (rw (split_is s, open_first, others_some s open_more, f) (reading_fields word_open (split (from s 5))))

-- `closed,,`
pub reading_closed : (s : List ℕ) → same s (word_closed ++ (44 ∷ 44 ∷ [])) ≡ true → Some Reading.Closed ≡ reading_in (split s)
unfolding reading_in reading_of split same
reading_closed s e = rw (same_is s (word_closed ++ (44 ∷ 44 ∷ [])) e)

-- `unknown,,`, or none of the three
pub reading_last : (s : List ℕ) → begins s (word_open ++ (44 ∷ [])) ≡ false → same s (word_closed ++ (44 ∷ 44 ∷ [])) ≡ false
    → (t : Bool) → same s (word_unknown ++ (44 ∷ 44 ∷ [])) ≡ t → then_some t Reading.Unknown ≡ reading_in (split s)
unfolding reading_in reading_of split same plain commas minutes_in
reading_last s o c true u = rw (same_is s (word_unknown ++ (44 ∷ 44 ∷ [])) u)
reading_last s o c false u =
    let n =
    no_reading (first s) (minutes_in (others s)) (unused 2 (others s)) (alone (more s) refl) (sym (whole word_closed refl 2 s) ∙ c)
    (sym (whole word_unknown refl 2 s) ∙ u) in
    sym (rw (split_is s) (reading_fields (first s) (others s) ∙ n))
  where
    alone : (m : Bool) → more s ≡ m → same (first s) word_open ≡ true → minutes_in (others s) ≡ None
    alone true q p = let z : false ≡ true = sym o ∙ begins_word word_open refl s ∙ rw (p, q) in cc
    alone false q p = rw (more_no s q)

-- ---- a client and a reading

write_no : (x : Option ℕ) → write_by x None ≡ None
write_no None = refl
write_no (Some c) = refl

write_fields : (a : List ℕ) (fs : List (List ℕ)) → row_as Kind.Writes (a ∷ fs) ≡ write_by (byte_of a) (reading_in fs)
unfolding row_as row_by reading_in
write_fields a [] = sym (write_no (byte_of a))
write_fields a (b ∷ []) = sym (write_no (byte_of a))
write_fields a (b ∷ c ∷ []) = sym (write_no (byte_of a))
write_fields a (b ∷ c ∷ d ∷ []) = refl
write_fields a (b ∷ c ∷ d ∷ e ∷ fs) = sym (write_no (byte_of a))

write_row : (s : List ℕ) → row_as Kind.Writes (split s) ≡ write_by (byte_of (first s)) (reading_in (others s))
write_row s = rw (split_is s) (write_fields (first s) (others s))

pub write_none : (s : List ℕ) → byte_at s ≡ None → None ≡ row_as Kind.Writes (split s)
write_none s e = sym (write_row s ∙ rw (byte_told_none s e))

module _ (s : List ℕ) (a n : ℕ) (e : byte_at s ≡ Some (a, n)) where
  pub write_short : n ≡ length s → None ≡ row_as Kind.Writes (split s)
  unfolding reading_in
  write_short h = sym (write_row s ∙ rw (told_last (byte_told s a n e) h) (write_no (byte_of (first s))))

  pub write_is : n + 1 ≤ length s → (t : List ℕ) → t ≡ from s (n + 1) → (r : Option Reading) → r ≡ reading_in (split t)
      → write_by (Some a) r ≡ row_as Kind.Writes (split s)
  write_is h t d r q = let b = byte_told s a n e in sym (write_row s ∙ rw (b.value, told_others b h t d, q))
