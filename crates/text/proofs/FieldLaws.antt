-- Laws of a line's fields: the first, the others, and what stands behind the first. Assumes nothing.
use Prim.Native.Nat.{ℕ, zero, suc, ◌+◌, ◌-◌, ◌<◌, ◌≤◌}
use native.Mathlib.Omega.{arith}
use mathlib.Core.Bool.{Bool, true, false, cond, ◌&&◌}
use mathlib.Core.List.{List, [], ◌∷◌, ◌++◌, append_assoc}
use mathlib.Core.Path.{◌≡◌, refl, sym, ◌∙◌, ap}
use lib.ListN.{length, take, drop, length-append, length-drop}
use lib.Seq.{take_all, drop_at}
use lib.Dec.{eqb}
use borrow.Author.Tests.{eq-eqb, ne_eqb, eqb-true}
use Rattle.text.specs.Fields.{same, split, onto, is_empty}
use Rattle.text.specs.Pieces.{begins, first, after}

-- ---- the first field and the others

unfoldable pub others : List ℕ → List (List ℕ)
others [] = []
others (b ∷ l) = cond (eqb b 44) (split l) (others l)

-- whether a comma ends the first field
unfoldable pub more : List ℕ → Bool
more [] = false
more (b ∷ l) = cond (eqb b 44) true (more l)

pub split_is : (l : List ℕ) → split l ≡ first l ∷ others l
unfolding split first others
split_is [] = refl
split_is (b ∷ l) = go (eqb b 44) (split_is l)
  where
    go : (t : Bool) → split l ≡ first l ∷ others l
        → cond t ([] ∷ split l) (onto b (split l)) ≡ cond t [] (b ∷ first l) ∷ cond t (split l) (others l)
    go true e = refl
    go false e = rw e

-- the first field, and what stands behind it
pub first_rest : (l : List ℕ) → l ≡ first l ++ drop (length (first l)) l
unfolding first
first_rest [] = refl
first_rest (b ∷ l) = go (eqb b 44) (first_rest l)
  where
    go : (t : Bool) → l ≡ first l ++ drop (length (first l)) l
        → ◌≡◌ {A = List ℕ} (b ∷ l) (cond t [] (b ∷ first l) ++ drop (length (cond t [] (b ∷ first l))) (b ∷ l))
    go true e = refl
    go false e = ap (λ (m : List ℕ). b ∷ m) e

pub first_le : (l : List ℕ) → length (first l) ≤ length l
first_le l = omega (arith, ap length (first_rest l), length-append (first l) (drop (length (first l)) l))

-- a line that is one field
pub one_field : (l : List ℕ) → length l ≤ length (first l) → (others l ≡ []) × (after l ≡ [])
unfolding first others after
one_field [] h = (refl, refl)
one_field (b ∷ l) h = go (eqb b 44) h (one_field l)
  where
    go : (t : Bool) → suc (length l) ≤ length (cond t [] (b ∷ first l)) → (length l ≤ length (first l) → (others l ≡ []) × (after l ≡ []))
        → (cond t (split l) (others l) ≡ []) × (cond t l (after l) ≡ [])
    go true h f = absurd (omega arith)
    go false h f = f (omega arith)

-- a line of several fields
pub others_some : (l : List ℕ) → length (first l) < length l → others l ≡ split (after l)
unfolding first others after
others_some [] h = absurd (omega arith)
others_some (b ∷ l) h = go (eqb b 44) h (others_some l)
  where
    go : (t : Bool) → length (cond t [] (b ∷ first l)) < suc (length l) → (length (first l) < length l → others l ≡ split (after l))
        → cond t (split l) (others l) ≡ split (cond t l (after l))
    go true h f = refl
    go false h f = f (omega arith)

pub first_after : (l : List ℕ) → length (first l) < length l → l ≡ first l ++ (44 ∷ after l)
unfolding first after
first_after [] h = absurd (omega arith)
first_after (b ∷ l) h = go (eqb b 44) refl h (first_after l)
  where
    go : (t : Bool) → eqb b 44 ≡ t → length (cond t [] (b ∷ first l)) < suc (length l)
        → (length (first l) < length l → l ≡ first l ++ (44 ∷ after l))
        → ◌≡◌ {A = List ℕ} (b ∷ l) (cond t [] (b ∷ first l) ++ (44 ∷ cond t l (after l)))
    go true p h f = let e : b ≡ 44 = eqb-true b 44 p in cc
    go false p h f = ap (λ (m : List ℕ). b ∷ m) (f (omega arith))

pub after_some : (l : List ℕ) → length (first l) < length l → after l ≡ drop (length (first l) + 1) l
after_some l h =
    sym (ap (drop (length (first l) + 1)) (first_after l h ∙ sym (append_assoc (first l) (44 ∷ []) (after l)))
    ∙ drop_at (first l ++ (44 ∷ [])) (after l) (length (first l) + 1) (length-append (first l) (44 ∷ [])))

-- the first field with other bytes behind its comma
pub first_again : (l z : List ℕ) → first (first l ++ (44 ∷ z)) ≡ first l
unfolding first
first_again [] z = refl
first_again (b ∷ l) z = go (eqb b 44) refl (first_again l z)
  where
    go : (t : Bool) → eqb b 44 ≡ t → first (first l ++ (44 ∷ z)) ≡ first l
        → first (cond t [] (b ∷ first l) ++ (44 ∷ z)) ≡ cond t [] (b ∷ first l)
    go true p e = refl
    go false p e = rw (p, e)

pub after_again : (l z : List ℕ) → after (first l ++ (44 ∷ z)) ≡ z
unfolding first after
after_again [] z = refl
after_again (b ∷ l) z = go (eqb b 44) refl (after_again l z)
  where
    go : (t : Bool) → eqb b 44 ≡ t → after (first l ++ (44 ∷ z)) ≡ z → after (cond t [] (b ∷ first l) ++ (44 ∷ z)) ≡ z
    go true p e = refl
    go false p e = rw p e

-- ---- fields that are not used

-- just k fields, all empty
unfoldable pub unused : ℕ → List (List ℕ) → Bool
unused zero [] = true
unused zero (f ∷ fs) = false
unused (suc k) [] = false
unused (suc k) (f ∷ fs) = is_empty f && unused k fs

unfoldable pub commas : ℕ → List ℕ
commas zero = []
commas (suc k) = 44 ∷ commas k

-- k commas are what stands between k + 1 empty fields
unused_all : (k : ℕ) (l : List ℕ) → unused (suc k) (split l) ≡ same l (commas k)
unfolding unused commas split same
unused_all zero [] = refl
unused_all (suc k) [] = refl
unused_all zero (b ∷ l) = go (eqb b 44)
  where
    go : (t : Bool) → unused 1 (cond t ([] ∷ split l) (onto b (split l))) ≡ false
    go true = rw (split_is l)
    go false = rw (split_is l)
unused_all (suc k) (b ∷ l) = go (eqb b 44) (unused_all k l)
  where
    go : (t : Bool) → unused (suc k) (split l) ≡ same l (commas k)
        → unused (suc (suc k)) (cond t ([] ∷ split l) (onto b (split l))) ≡ cond t (same l (commas k)) false
    go true e = e
    go false e = rw (split_is l)

-- and with a comma in front of the first of them
comma_unused : (k b : ℕ) (l : List ℕ) → eqb b 44 ≡ true → unused k (split l) ≡ same (b ∷ l) (commas k)
unfolding unused commas same
comma_unused zero b l p = rw (split_is l)
comma_unused (suc k) b l p = rw (p, unused_all k l)

-- what stands behind the first field is k commas when k empty fields follow
pub unused_rest : (k : ℕ) (s : List ℕ) → unused k (others s) ≡ same (drop (length (first s)) s) (commas k)
unfolding unused commas same first others
unused_rest zero [] = refl
unused_rest (suc k) [] = refl
unused_rest k (b ∷ l) = go (eqb b 44) refl (unused_rest k l)
  where
    go : (t : Bool) → eqb b 44 ≡ t → unused k (others l) ≡ same (drop (length (first l)) l) (commas k)
        → unused k (cond t (split l) (others l)) ≡ same (drop (length (cond t [] (b ∷ first l))) (b ∷ l)) (commas k)
    go true p f = comma_unused k b l p
    go false p f = f

-- ---- a line that begins with a word

-- no byte is a comma
unfoldable pub plain : List ℕ → Bool
plain [] = true
plain (x ∷ v) = cond (eqb x 44) false (plain v)

plain_head : (x : ℕ) (v : List ℕ) → plain (x ∷ v) ≡ true → x ≡ 44 → ⊥
unfolding plain
plain_head x v e h =
    let z : false ≡ true = sym (rw (eq-eqb x 44 h)) ∙ e in
    let n : ◌≡◌ {A = ℕ} 0 1 = cc in
    omega arith

plain_tail : (x : ℕ) (v : List ℕ) → plain (x ∷ v) ≡ true → plain v ≡ true
unfolding plain
plain_tail x v e = sym (rw (ne_eqb x 44 (plain_head x v e))) ∙ e

no_comma : (k b : ℕ) (l : List ℕ) → eqb b 44 ≡ false → false ≡ same (b ∷ l) (commas k)
unfolding commas same
no_comma zero b l q = refl
no_comma (suc k) b l q = rw q

-- one byte more of a word
with_byte : (t x y z : Bool) → x ≡ (y && z) → cond t x false ≡ (cond t y false && z)
with_byte true x y z e = e
with_byte false x y z e = refl

-- the first field is the word and the others are k empty ones when the line is the word and k commas
pub whole : (v : List ℕ) → plain v ≡ true → (k : ℕ) (s : List ℕ) → same s (v ++ commas k) ≡ (same (first s) v && unused k (others s))
unfolding same first others unused commas
whole [] p zero [] = refl
whole [] p (suc k) [] = refl
whole [] p k (b ∷ l) = go (eqb b 44) refl
  where
    go : (t : Bool) → eqb b 44 ≡ t → same (b ∷ l) (commas k) ≡ (same (cond t [] (b ∷ first l)) [] && unused k (cond t (split l) (others l)))
    go true q = sym (comma_unused k b l q)
    go false q = sym (no_comma k b l q)
whole (x ∷ v) p k [] = refl
whole (x ∷ v) p k (b ∷ l) = go (eqb b 44) refl (with_byte (eqb b x) _ _ _ (whole v (plain_tail x v p) k l))
  where
    go : (t : Bool) → eqb b 44 ≡ t → same (b ∷ l) (x ∷ v ++ commas k) ≡ (same (b ∷ first l) (x ∷ v) && unused k (others l))
        → same (b ∷ l) (x ∷ v ++ commas k) ≡ (same (cond t [] (b ∷ first l)) (x ∷ v) && unused k (cond t (split l) (others l)))
    go true q e = rw (ne_eqb b x (λ d. plain_head x v p (sym d ∙ eqb-true b 44 q)))
    go false q e = e

-- the first field is the word and others follow when the line begins with the word and a comma
pub begins_word : (v : List ℕ) → plain v ≡ true → (s : List ℕ) → begins s (v ++ (44 ∷ [])) ≡ (same (first s) v && more s)
unfolding same first more begins
begins_word [] p [] = refl
begins_word [] p (b ∷ l) = go (eqb b 44)
  where
    go : (t : Bool) → cond t true false ≡ (same (cond t [] (b ∷ first l)) [] && cond t true (more l))
    go true = refl
    go false = refl
begins_word (x ∷ v) p [] = refl
begins_word (x ∷ v) p (b ∷ l) = go (eqb b 44) refl (with_byte (eqb b x) _ _ _ (begins_word v (plain_tail x v p) l))
  where
    go : (t : Bool) → eqb b 44 ≡ t → begins (b ∷ l) (x ∷ v ++ (44 ∷ [])) ≡ (same (b ∷ first l) (x ∷ v) && more l)
        → begins (b ∷ l) (x ∷ v ++ (44 ∷ [])) ≡ (same (cond t [] (b ∷ first l)) (x ∷ v) && cond t true (more l))
    go true q e = rw (ne_eqb b x (λ d. plain_head x v p (sym d ∙ eqb-true b 44 q)))
    go false q e = e

pub more_yes : (l : List ℕ) → more l ≡ true → length (first l) < length l
unfolding more first
more_yes [] e = absurd (let z : ◌≡◌ {A = ℕ} 0 1 = cc in omega arith)
more_yes (b ∷ l) e = go (eqb b 44) e (more_yes l)
  where
    go : (t : Bool) → cond t true (more l) ≡ true → (more l ≡ true → length (first l) < length l)
        → length (cond t [] (b ∷ first l)) < suc (length l)
    go true e f = omega arith
    go false e f = let h : length (first l) < length l = f e in omega arith

pub more_no : (l : List ℕ) → more l ≡ false → others l ≡ []
unfolding more others
more_no [] e = refl
more_no (b ∷ l) e = go (eqb b 44) e (more_no l)
  where
    go : (t : Bool) → cond t true (more l) ≡ false → (more l ≡ false → others l ≡ []) → cond t (split l) (others l) ≡ []
    go true e f = absurd (let z : ◌≡◌ {A = ℕ} 0 1 = cc in omega arith)
    go false e f = f e

-- ---- a part to the end

-- the code's `&s[e..]`
abbrev pub from : List ℕ → ℕ → List ℕ
from s e = take (length s - e) (drop e s)

pub from_is : (s : List ℕ) (e : ℕ) → e ≤ length s → from s e ≡ drop e s
from_is s e h = take_all (length s - e) (drop e s) (omega (arith, length-drop e s))
