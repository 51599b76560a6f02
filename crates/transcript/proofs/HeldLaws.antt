-- The bytes of a row so far, as the machine holds them, and what it sees in them: the same as Rehearsal.antt. Assumes nothing.
use Prim.Native.Nat.{ℕ, ◌-◌, ◌<◌, ◌≤◌}
use native.Mathlib.Omega.{arith}
use mathlib.Core.Bool.{Bool, true, false, cond}
use mathlib.Core.List.{List, [], ◌∷◌, ◌++◌}
use mathlib.Core.Path.{◌≡◌, refl}
use lib.ListN.{length, take, get_or, length-append}
use lib.Seq.{length-take-le}
use lib.Dec.{eqb, leb, ltb}
use borrow.Author.Tests.{le-leb, lt-leb, leb-false, ltb-true, ltb-false}
use Rattle.text.specs.Ends.{unended}
use Rattle.text.specs.Words.{header}
use Rattle.text.specs.Rows.{row_of, is_header, most_bytes}
use Rattle.transcript.specs.Names.{None, Option, Row}
use Rattle.text.proofs.BytesLaws.{same_lengths}
use Rattle.transcript.specs.Machine.{Held, Line, Over, short, row_in, head_in, push, most_line}

abbrev pub holds : List ℕ → Held
holds l = cond (leb (length l) most_line) (Line l) Over

pub hold_push : (p : List ℕ) (b : ℕ) → push (holds p) b ≡ holds (p ++ (b ∷ []))
unfolding push
hold_push p b = go (leb (length p) most_line) (ltb (length p) most_line) refl refl
  where
    go : (t u : Bool) → leb (length p) most_line ≡ t → ltb (length p) most_line ≡ u
        → push (cond t (Line p) Over) b ≡ cond (leb (length (p ++ (b ∷ []))) most_line) (Line (p ++ (b ∷ []))) Over
    go true true e f = let h : length (p ++ (b ∷ [])) ≤ most_line = omega (arith, length-append p (b ∷ []), ltb-true (length p) most_line f) in rw (le-leb _ _ h, f)
    go true false e f = let h : most_line < length (p ++ (b ∷ [])) = omega (arith, length-append p (b ∷ []), ltb-false (length p) most_line f) in rw (lt-leb _ _ h, f)
    go false u e f = let h : most_line < length (p ++ (b ∷ [])) = omega (arith, length-append p (b ∷ []), leb-false (length p) most_line e) in rw (lt-leb _ _ h)

-- a row without its end lacks one byte at most
unended_long : (l : List ℕ) → most_line < length l → most_bytes < length (unended l)
unfolding unended
unended_long l h = go (eqb (get_or l (length l - 1) 0) 13)
  where
    go : (t : Bool) → most_bytes < length (cond t (take (length l - 1) l) l)
    go true = let e : length (take (length l - 1) l) ≡ length l - 1 = length-take-le (length l - 1) l (omega arith) in omega arith
    go false = omega arith

long_row : (l : List ℕ) → most_bytes < length l → None ≡ row_of l
unfolding row_of
long_row l h = rw (lt-leb _ _ h)

long_head : (l : List ℕ) → most_bytes < length l → false ≡ is_header l
unfolding is_header
long_head l h = same_lengths l header (λ e. omega arith)

-- what sees each row as Rehearsal.antt does sees so what is held, at an LF and at the input's end
module _ (A : Type 0) (seen : Held → A) (of : List ℕ → A) (line : (l : List ℕ) → seen (Line l) ≡ of l) (long : (l : List ℕ) → most_bytes < length l → seen Over ≡ of l) where
  seen_lf : (p : List ℕ) → seen (short (holds p)) ≡ of (unended p)
  seen_lf p = go (leb (length p) most_line) refl
    where
      go : (t : Bool) → leb (length p) most_line ≡ t → seen (short (cond t (Line p) Over)) ≡ of (unended p)
      go true e = line (unended p)
      go false e = long (unended p) (unended_long p (leb-false (length p) most_line e))

  seen_end : (p : List ℕ) → seen (holds p) ≡ of p
  seen_end p = go (leb (length p) most_line) refl
    where
      go : (t : Bool) → leb (length p) most_line ≡ t → seen (cond t (Line p) Over) ≡ of p
      go true e = line p
      go false e = let h : most_line < length p = leb-false (length p) most_line e in long p (omega arith)

pub row_lf : (p : List ℕ) → row_in (short (holds p)) ≡ row_of (unended p)
row_lf = seen_lf (Option Row) row_in row_of (λ l. refl) long_row

pub row_end : (p : List ℕ) → row_in (holds p) ≡ row_of p
row_end = seen_end (Option Row) row_in row_of (λ l. refl) long_row

pub head_lf : (p : List ℕ) → head_in (short (holds p)) ≡ is_header (unended p)
head_lf = seen_lf Bool head_in is_header (λ l. refl) long_head

pub head_end : (p : List ℕ) → head_in (holds p) ≡ is_header p
head_end = seen_end Bool head_in is_header (λ l. refl) long_head
