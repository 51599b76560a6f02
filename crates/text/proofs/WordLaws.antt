-- Laws of the words that name kinds: the quick way by a line's first byte agrees with the table of words. Assumes nothing.
use Prim.Native.Nat.{ℕ, ◌+◌, ◌<◌, ◌≤◌}
use native.Mathlib.Omega.{arith}
use mathlib.Core.Bool.{Bool, true, false, cond, ◌&&◌, and-eq-true_iff}
use mathlib.Core.List.{List, [], ◌∷◌, ◌++◌}
use mathlib.Core.Path.{◌≡◌, refl, sym, ◌∙◌, ap}
use lib.ListN.{length, drop, length-append}
use lib.Dec.{eqb}
use borrow.Author.Tests.{ne_eqb, le-leb, lt-leb}
use Rattle.std.specs.Prelude.{Option, Some, None, option_and_then, MatchOption, slice_get}
use Rattle.std.proofs.lemmas.Option.{same_Some}
use Rattle.text.specs.Fields.{same, split}
use Rattle.text.specs.Pieces.{begins, first, head_if, head_in, lead_by}
use Rattle.text.specs.Rows.{row_as, row_of_fields, row_of, most_bytes}
use Rattle.text.specs.Words.{Named, named, kind_in, kinds}
use Rattle.text.specs.Names.{Head, Kind, Row}
use Rattle.text.proofs.BytesLaws.{same_is, begins_fits, begins_is}
use Rattle.text.proofs.FieldLaws.{from, from_is, others, more, split_is, others_some, after_some, plain, begins_word, more_yes, more_no}

-- ---- by the first byte

-- only words that begin with the line's first byte are to be compared
pub by_lead : (ns : List Named) (l : List ℕ) (b : ℕ) → slice_get l 0 ≡ Some b → head_in (lead_by b ns) l ≡ head_in ns l
unfolding head_in lead_by begins
by_lead [] l b e = refl
by_lead (n ∷ ns) [] b e = cc
by_lead (n ∷ ns) (c ∷ m) b e = go n.word (cc) (by_lead ns (c ∷ m) b e)
  where
    with : List ℕ → Named
    with w = record { word = w; kind = n.kind }

    pick : (x : ℕ) (v : List ℕ) (t : Bool) → eqb b x ≡ t → c ≡ b → head_in (lead_by b ns) (c ∷ m) ≡ head_in ns (c ∷ m)
        → head_in (cond t (with (x ∷ v) ∷ lead_by b ns) (lead_by b ns)) (c ∷ m) ≡ head_in (with (x ∷ v) ∷ ns) (c ∷ m)
    pick x v true q d f = rw f
    pick x v false q d f = rw (ap (λ (z : ℕ). eqb z x) d ∙ q, f)

    go : (w : List ℕ) → c ≡ b → head_in (lead_by b ns) (c ∷ m) ≡ head_in ns (c ∷ m)
        → head_in (lead_by b (with w ∷ ns)) (c ∷ m) ≡ head_in (with w ∷ ns) (c ∷ m)
    go [] d f = rw f
    go (x ∷ v) d f = pick x v (eqb b x) refl d f

-- of the words with one first byte, the first is the head of each line that begins with it and a comma
pub by_first : (ns : List Named) (l : List ℕ) (b : ℕ) (v : List ℕ) (k : Kind) (ms : List Named) → lead_by b ns ≡ named (b ∷ v) k ∷ ms
    → begins l (b ∷ (v ++ (44 ∷ []))) ≡ true → head_in ns l ≡ Some (record { kind = k; end = length (b ∷ v) + 1 })
unfolding head_in
by_first ns l b v k ms f e =
    sym (by_lead ns l b (ap (λ (z : List ℕ). slice_get z 0) (begins_is l (b ∷ (v ++ (44 ∷ []))) e))) ∙ rw (f, e)

-- no word begins with another byte than these six
pub by_none : (l : List ℕ) (b : ℕ) → slice_get l 0 ≡ Some b
    → (b ≡ 100 → ⊥) → (b ≡ 108 → ⊥) → (b ≡ 112 → ⊥) → (b ≡ 114 → ⊥) → (b ≡ 115 → ⊥) → (b ≡ 119 → ⊥) → None ≡ head_in kinds l
unfolding head_in lead_by
by_none l b e d l' p r s w =
    sym (simp (ne_eqb b 100 d, ne_eqb b 108 l', ne_eqb b 112 p, ne_eqb b 114 r, ne_eqb b 115 s, ne_eqb b 119 w)) ∙ by_lead kinds l b e

pub by_empty : (l : List ℕ) → slice_get l 0 ≡ None → None ≡ head_in kinds l
unfolding head_in begins
by_empty [] h = refl
by_empty (b ∷ l) h = cc

-- one word after another
pub head_or : (t : Bool) (k : Kind) (n : ℕ) (o r q : Option Head) (P : Type 0) → o ≡ head_if t k n None → MatchOption o P (λ h. r ≡ Some h)
    → (P → r ≡ q) → r ≡ head_if t k n q
head_or true k n o r q P e m f = rw e at m
head_or false k n o r q P e m f = f (rw e at m)

pub head_or_third : (t u : Bool) (k j : Kind) (n m : ℕ) (o r q : Option Head) (P : Type 0) → o ≡ head_if t k n (head_if u j m None)
    → MatchOption o P (λ h. r ≡ Some h) → (P → r ≡ q) → r ≡ head_if t k n (head_if u j m q)
head_or_third true u k j n m o r q P e s f = rw e at s
head_or_third false u k j n m o r q P e s f = head_or u j m o r q P e s f

-- ---- the row of a line that begins with a word

-- no word of the table has a comma
unfoldable all_plain : List Named → Bool
all_plain [] = true
all_plain (n ∷ ns) = plain n.word && all_plain ns

-- the row that a head and what stands behind it make
abbrev row_from : List ℕ → Head → Option Row
row_from l h = row_as h.kind (split (drop h.end l))

word_row : (k : Kind) (v l : List ℕ) → same (first l) v ≡ true → more l ≡ true
    → row_as k (others l) ≡ row_as k (split (drop (length v + 1) l))
word_row k v l s m =
    rw (others_some l (more_yes l m), after_some l (more_yes l m), same_is (first l) v s)

-- a word alone is no row
bare : (k : Option Kind) (fs : List (List ℕ)) → fs ≡ [] → option_and_then (λ k. row_as k fs) k ≡ None
unfolding row_as
bare None fs e = refl
bare (Some k) fs e = rw e

head_row : (ns : List Named) → all_plain ns ≡ true → (l : List ℕ)
    → option_and_then (row_from l) (head_in ns l) ≡ option_and_then (λ k. row_as k (others l)) (kind_in ns (first l))
unfolding head_in kind_in all_plain
head_row [] p l = refl
head_row (n ∷ ns) p l =
    let both = (and-eq-true_iff (plain n.word) (all_plain ns)).0 p in
    rw (begins_word n.word both.0 l) (go (same (first l) n.word) refl (more l) refl (head_row ns both.1 l))
  where
    go : (s : Bool) → same (first l) n.word ≡ s → (m : Bool) → more l ≡ m
        → option_and_then (row_from l) (head_in ns l) ≡ option_and_then (λ k. row_as k (others l)) (kind_in ns (first l))
        → option_and_then (row_from l) (head_if (s && m) n.kind (length n.word + 1) (head_in ns l))
        ≡ option_and_then (λ k. row_as k (others l)) (cond s (Some n.kind) (kind_in ns (first l)))
    go true q true r f = sym (word_row n.kind n.word l q r)
    go true q false r f =
        let z : others l ≡ [] = more_no l r in
        f ∙ bare (kind_in ns (first l)) (others l) z ∙ sym (bare (Some n.kind) (others l) z)
    go false q m r f = f

pub head_fits : (ns : List Named) (l : List ℕ) (h : Head) → head_in ns l ≡ Some h → h.end ≤ length l
unfolding head_in
head_fits [] l h e = cc
head_fits (n ∷ ns) l h e = go (begins l (n.word ++ (44 ∷ []))) refl e (head_fits ns l h)
  where
    go : (t : Bool) → begins l (n.word ++ (44 ∷ [])) ≡ t → head_if t n.kind (length n.word + 1) (head_in ns l) ≡ Some h
        → (head_in ns l ≡ Some h → h.end ≤ length l) → h.end ≤ length l
    go true q e f =
        let k : length n.word + 1 ≡ h.end = ap (λ (g : Head). g.end) (same_Some {A = Head} (record { kind = n.kind; end = length n.word + 1 }) h e) in
        omega (arith, begins_fits l (n.word ++ (44 ∷ [])) q, length-append n.word (44 ∷ []))
    go false q e f = f e

-- ---- the row of a line

-- "over 64 bytes, is answered 2"
pub row_long : (l : List ℕ) → most_bytes < length l → None ≡ row_of l
unfolding row_of
row_long l h = rw (lt-leb (length l) most_bytes h)

-- the row of a line that is not too long, by its head
row_by_head : (l : List ℕ) → length l ≤ most_bytes → option_and_then (row_from l) (head_in kinds l) ≡ row_of l
unfolding row_of row_of_fields all_plain plain
row_by_head l g = rw (le-leb (length l) most_bytes g, split_is l) (head_row kinds refl l)

pub row_none : (l : List ℕ) → None ≡ head_in kinds l → length l ≤ most_bytes → None ≡ row_of l
row_none l e g = ap (option_and_then (row_from l)) e ∙ row_by_head l g

pub row_is : (l : List ℕ) (h : Head) → Some h ≡ head_in kinds l → length l ≤ most_bytes → row_as h.kind (split (from l h.end)) ≡ row_of l
row_is l h e g = rw (from_is l h.end (head_fits kinds l h (sym e))) (ap (option_and_then (row_from l)) e ∙ row_by_head l g)
