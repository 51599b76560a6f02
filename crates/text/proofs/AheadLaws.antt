-- Laws of a step row at the front of an input, with its LF: the row is the front's word, its numbers and its commas. Assumes nothing.
use Prim.Native.Nat.{ℕ, ◌+◌, ◌*◌, ◌-◌, ◌<◌, ◌≤◌}
use native.Mathlib.Omega.{arith}
use mathlib.Core.Bool.{Bool, true, false, cond, ◌&&◌, and-eq-true_iff}
use mathlib.Core.List.{List, [], ◌∷◌, ◌++◌, append_assoc}
use mathlib.Core.Path.{◌≡◌, refl, sym, ◌∙◌, ap}
use lib.ListN.{length, get_or, take, drop, length-append, length-take, take-append-drop}
use lib.Seq.{take_at, drop_at, get_or-append-add}
use lib.Dec.{eqb, leb}
use borrow.Author.Tests.{leb-true, eqb-true, ne_eqb}
use Rattle.text.specs.Names.{Double, Head, Kind, Row, Single, Step}
use Rattle.text.specs.Ends.{breaks, step_in, Leads}
use Rattle.std.specs.Prelude.{Option, Some, None}
use Rattle.std.proofs.lemmas.Option.{same_Some}
use Rattle.text.specs.Fields.{split, value_from, unpadded, number_of, byte_by, byte_of, most_digits}
use Rattle.text.specs.Pieces.{begins, first, after, byte_at, bytes_at, head_if, head_in}
use Rattle.text.specs.Rows.{one_step, two_step, row_as, row_of}
use Rattle.text.specs.Words.{Named, kinds}
use Rattle.text.proofs.BreakLaws.{breaks_append}
use Rattle.text.proofs.BytesLaws.{begins_is, begins_no, begins_yes}
use Rattle.text.proofs.EndLaws.{unended_bare}
use Rattle.text.proofs.FieldLaws.{from, from_is, first_rest, first_after, first_again, after_again}
use Rattle.text.proofs.PairLaws.{Told, byte_told, told_fits, Both, both_bytes, both_fits, both_rest}
use Rattle.text.proofs.StepLaws.{one_is, two_is}
use Rattle.text.proofs.WordLaws.{head_fits, row_is}

-- ---- bytes without an LF

clean : (l m : List ℕ) → breaks l ≡ 0 → breaks m ≡ 0 → breaks (l ++ m) ≡ 0
clean l m h g = omega (arith, breaks_append l m)

value_clean : (v : ℕ) (l : List ℕ) (a : ℕ) → value_from v l ≡ Some a → breaks l ≡ 0
unfolding value_from breaks
value_clean v [] a e = refl
value_clean v (b ∷ l) a e = go (leb 48 b) refl (leb b 57) e (value_clean (v * 10 + (b - 48)) l a)
  where
    go : (t : Bool) → leb 48 b ≡ t → (u : Bool) → cond t (cond u (value_from (v * 10 + (b - 48)) l) None) None ≡ Some a
        → (value_from (v * 10 + (b - 48)) l ≡ Some a → breaks l ≡ 0) → cond (eqb b 10) 1 0 + breaks l ≡ 0
    go true p true q f =
        let h : 48 ≤ b = leb-true 48 b p in
        rw (ne_eqb b 10 (λ (z : b ≡ 10). omega arith)) (omega (arith, f q))
    go true p false q f = absurd (cc)
    go false p u q f = absurd (cc)

-- a number is at most seven digits, and no digit is an LF
number_fits : (l : List ℕ) (a : ℕ) → number_of l ≡ Some a → (length l ≤ most_digits) × (breaks l ≡ 0)
unfolding number_of
number_fits l a e = go (leb (length l) most_digits) refl (unpadded l) e
  where
    go : (t : Bool) → leb (length l) most_digits ≡ t → (u : Bool) → cond t (cond u (value_from 0 l) None) None ≡ Some a
        → (length l ≤ most_digits) × (breaks l ≡ 0)
    go true p true q = (leb-true _ _ p, value_clean 0 l a q)
    go true p false q = absurd (cc)
    go false p u q = absurd (cc)

-- ---- the word at the front

-- every word has at most eight bytes, and no LF
unfoldable all_short : List Named → Bool
all_short [] = true
all_short (n ∷ ns) = (leb (length n.word) 8 && eqb (breaks n.word) 0) && all_short ns

word_is : (v l : List ℕ) → begins l (v ++ (44 ∷ [])) ≡ true → take (length v + 1) l ≡ v ++ (44 ∷ [])
word_is v l e = rw (begins_is l (v ++ (44 ∷ [])) e) (take_at (v ++ (44 ∷ [])) _ (length v + 1) (length-append v (44 ∷ [])))

-- such a word's head
with_word : Named → Head
with_word n = record { kind = n.kind; end = length n.word + 1 }

head_short : (ns : List Named) → all_short ns ≡ true → (l : List ℕ) (h : Head) → head_in ns l ≡ Some h → (h.end ≤ 9) × (breaks (take h.end l) ≡ 0)
unfolding head_in all_short breaks with_word
head_short [] p l h e = absurd (cc)
head_short (n ∷ ns) p l h e =
    let both = (and-eq-true_iff (leb (length n.word) 8 && eqb (breaks n.word) 0) (all_short ns)).0 p in
    let fit = (and-eq-true_iff (leb (length n.word) 8) (eqb (breaks n.word) 0)).0 both.0 in
    go (begins l (n.word ++ (44 ∷ []))) refl (leb-true _ _ fit.0) (eqb-true _ _ fit.1) e (head_short ns both.1 l h)
  where
    go : (t : Bool) → begins l (n.word ++ (44 ∷ [])) ≡ t → length n.word ≤ 8 → breaks n.word ≡ 0
        → cond t (Some (with_word n)) (head_in ns l) ≡ Some h → (head_in ns l ≡ Some h → (h.end ≤ 9) × (breaks (take h.end l) ≡ 0))
        → (h.end ≤ 9) × (breaks (take h.end l) ≡ 0)
    go true q k g e f =
        let d : h ≡ with_word n = sym (same_Some {A = Head} (with_word n) h e) in
        rw d (omega arith, rw (word_is n.word l q) (clean n.word (44 ∷ []) g refl))
    go false q k g e f = f e

-- what stands behind the word does not count
head_front : (ns : List Named) (l z : List ℕ) (h : Head) → head_in ns (l ++ z) ≡ Some h → h.end ≤ length l → head_in ns l ≡ Some h
unfolding head_in with_word
head_front [] l z h e k = cc
head_front (n ∷ ns) l z h e k = go (begins (l ++ z) (n.word ++ (44 ∷ []))) refl e (head_front ns l z h)
  where
    go : (t : Bool) → begins (l ++ z) (n.word ++ (44 ∷ [])) ≡ t → cond t (Some (with_word n)) (head_in ns (l ++ z)) ≡ Some h
        → (head_in ns (l ++ z) ≡ Some h → h.end ≤ length l → head_in ns l ≡ Some h)
        → head_if (begins l (n.word ++ (44 ∷ []))) n.kind (length n.word + 1) (head_in ns l) ≡ Some h
    go true q e f =
        let d : length n.word + 1 ≡ h.end = ap (λ (g : Head). g.end) (same_Some {A = Head} (with_word n) h e) in
        rw (begins_yes l z (n.word ++ (44 ∷ [])) q (omega (arith, length-append n.word (44 ∷ [])))) e
    go false q e f = rw (begins_no l z (n.word ++ (44 ∷ [])) q) (f e k)

-- ---- a row and its LF

last : (l m : List ℕ) → 0 < length m → get_or (l ++ m) (length (l ++ m) - 1) 0 ≡ get_or m (length m - 1) 0
last l m h =
    let n : length (l ++ m) - 1 ≡ length l + (length m - 1) = omega (arith, length-append l m) in
    rw n (get_or-append-add l m (length m - 1) 0)

-- q is what the row has behind its word and comma
module _ (s : List ℕ) (h : Head) (e : head_in kinds s ≡ Some h) (q r : List ℕ) (is : drop h.end s ≡ q ++ (10 ∷ r)) where
  head : List ℕ
  head = take h.end s

  head_length : length head ≡ h.end
  unfolding head
  head_length = omega (arith, length-take h.end s, head_fits kinds s h e)

  whole : s ≡ (head ++ q) ++ (10 ∷ r)
  unfolding head
  whole = sym (take-append-drop h.end s) ∙ rw (is, append_assoc)

  head_fit : (h.end ≤ 9) × (breaks head ≡ 0)
  unfolding head all_short breaks
  head_fit = head_short kinds refl s h e

  head_same : head_in kinds (head ++ q) ≡ Some h
  head_same =
      head_front kinds (head ++ q) (10 ∷ r) h (sym (ap (head_in kinds) whole) ∙ e) (omega (arith, head_length, length-append head q))

  says : length q ≤ 55 → (x : Step) → row_as h.kind (split q) ≡ Some (Row.Step x) → row_of (head ++ q) ≡ Some (Row.Step x)
  says g x w =
      let f : from (head ++ q) h.end ≡ q = from_is (head ++ q) h.end (head_fits kinds _ h head_same) ∙ drop_at head q h.end head_length in
      sym (row_is (head ++ q) h (sym head_same) (omega (arith, head_fit.0, head_length, length-append head q))) ∙ rw f w

  leads : (x : Step) (n : ℕ) → row_as h.kind (split q) ≡ Some (Row.Step x) → n ≡ h.end + length q + 1
      → breaks q ≡ 0 → 0 < length q → length q ≤ 55 → get_or q (length q - 1) 0 ≡ 44 → Leads s x n
  leads x n w k b z g t =
      record {
        within = omega (arith, ap length whole, length-append (head ++ q) (10 ∷ r), length-append head q, head_length);
        row =
            record {
              line = head ++ q;
              ends =
                  ap (take n) (whole ∙ sym (append_assoc (head ++ q) (10 ∷ []) r))
                  ∙ take_at ((head ++ q) ++ (10 ∷ [])) r n
                  (omega (arith, length-append (head ++ q) (10 ∷ []), length-append head q, head_length));
              unbroken = clean head q head_fit.1 b;
              asks = ap (λ (l : List ℕ). step_in (row_of l)) (unended_bare (head ++ q) (last head q z ∙ t)) ∙ ap step_in (says g x w);
            };
      }

-- ---- what stands behind the numbers

pub word_fits : (s : List ℕ) (k : Kind) (f : ℕ) → head_in kinds s ≡ Some (record { kind = k; end = f }) → f ≤ length s
word_fits s k f h = head_fits kinds s (record { kind = k; end = f }) h

ending_is : (s v : List ℕ) (f n : ℕ) → f ≤ length s → n ≤ length (drop f s) → begins (from (from s f) n) v ≡ true
    → drop n (drop f s) ≡ v ++ drop (length v) (drop n (drop f s))
ending_is s v f n h k e =
    begins_is (drop n (drop f s)) v (rw (← from_is (drop f s) n k, ← from_is s f h) e)

-- a byte is at most seven digits, too
byte_fits : (l : List ℕ) (a : ℕ) → byte_of l ≡ Some a → (length l ≤ most_digits) × (breaks l ≡ 0)
byte_fits l a e = go (number_of l) refl e
  where
    go : (x : Option ℕ) → number_of l ≡ x → byte_by x ≡ Some a → (length l ≤ most_digits) × (breaks l ≡ 0)
    go None p q = absurd (cc)
    go (Some v) p q = number_fits l v p

-- ---- one number

byte_again : (l z : List ℕ) → byte_at (first l ++ (44 ∷ z)) ≡ byte_at l
unfolding byte_at
byte_again l z = rw (first_again l z)

module _ (k : Single) (s : List ℕ) (f a n : ℕ) (h : head_in kinds s ≡ Some (record { kind = Kind.WithOne k; end = f })) (e : byte_at (from s f) ≡ Some (a, n)) where
  byte_one : byte_at (drop f s) ≡ Some (a, n)
  byte_one = rw (from_is s f (word_fits s (Kind.WithOne k) f h)) at e

  told_one : Told (byte_of (first (drop f s))) (drop f s) a n
  told_one = byte_told (drop f s) a n byte_one

  -- the row behind its word and comma
  one_rest : List ℕ
  one_rest = first (drop f s) ++ (44 ∷ 44 ∷ 44 ∷ [])

  one_length : length one_rest ≡ n + 3
  unfolding one_rest
  one_length = omega (arith, length-append (first (drop f s)) (44 ∷ 44 ∷ 44 ∷ []), told_one.end)

  one_row : row_as (Kind.WithOne k) (split one_rest) ≡ Some (Row.Step (one_step k a))
  unfolding one_rest
  one_row =
      let c : from one_rest n ≡ 44 ∷ 44 ∷ 44 ∷ [] =
      from_is one_rest n (omega (arith, one_length)) ∙ drop_at (first (drop f s)) (44 ∷ 44 ∷ 44 ∷ []) n (sym told_one.end) in
      sym (one_is k one_rest a n (byte_again (drop f s) (44 ∷ 44 ∷ []) ∙ byte_one) true (rw c) (one_step k a) refl)

  pub one_leads : begins (from (from s f) n) (44 ∷ 44 ∷ 44 ∷ 10 ∷ []) ≡ true → Leads s (one_step k a) (f + n + 4)
  unfolding one_rest breaks
  one_leads b =
      let d = first (drop f s) in
      let fit = byte_fits d a told_one.value in
      let is : drop f s ≡ one_rest ++ (10 ∷ drop 4 (drop n (drop f s))) =
      first_rest (drop f s) ∙ rw (← told_one.end, append_assoc) (ap (λ (l : List ℕ). d ++ l) (ending_is s (44 ∷ 44 ∷ 44 ∷ 10 ∷ []) f n (word_fits s (Kind.WithOne k) f h) (told_fits told_one) b)) in
      leads s (record { kind = Kind.WithOne k; end = f }) h one_rest (drop 4 (drop n (drop f s))) is (one_step k a) (f + n + 4) one_row
      (omega (arith, one_length))
      (clean d (44 ∷ 44 ∷ 44 ∷ []) fit.1 refl)
      (omega (arith, one_length))
      (omega (arith, one_length, told_one.end, fit.0))
      (last d (44 ∷ 44 ∷ 44 ∷ []) (omega arith))

-- ---- two numbers

bytes_again : (l z : List ℕ) → bytes_at (first l ++ (44 ∷ (first (after l) ++ (44 ∷ z)))) ≡ bytes_at l
unfolding bytes_at
bytes_again l z = rw (first_again l _, after_again l _, first_again (after l) z)

module _ (k : Double) (s : List ℕ) (f a b n : ℕ) (h : head_in kinds s ≡ Some (record { kind = Kind.WithTwo k; end = f })) (e : bytes_at (from s f) ≡ Some (a, b, n)) where
  bytes_two : bytes_at (drop f s) ≡ Some (a, b, n)
  bytes_two = rw (from_is s f (word_fits s (Kind.WithTwo k) f h)) at e

  told_two : Both byte_of (drop f s) a b n
  told_two = both_bytes (drop f s) a b n bytes_two

  -- both numbers with the comma between them
  both : List ℕ
  both = first (drop f s) ++ (44 ∷ first (after (drop f s)))

  both_length : length both ≡ n
  unfolding both
  both_length = omega (arith, length-append (first (drop f s)) (44 ∷ first (after (drop f s))), told_two.end)

  -- the row behind its word and comma
  two_rest : List ℕ
  two_rest = both ++ (44 ∷ 44 ∷ [])

  two_length : length two_rest ≡ n + 2
  unfolding two_rest
  two_length = omega (arith, length-append both (44 ∷ 44 ∷ []), both_length)

  two_row : row_as (Kind.WithTwo k) (split two_rest) ≡ Some (Row.Step (two_step k a b))
  unfolding two_rest both
  two_row =
      let c : from two_rest n ≡ 44 ∷ 44 ∷ [] = from_is two_rest n (omega (arith, two_length)) ∙ drop_at both (44 ∷ 44 ∷ []) n both_length in
      let p : bytes_at two_rest ≡ bytes_at (drop f s) = rw append_assoc (bytes_again (drop f s) (44 ∷ [])) in
      sym (two_is k two_rest a b n (p ∙ bytes_two) true (rw c) (two_step k a b) refl)

  two_split : begins (from (from s f) n) (44 ∷ 44 ∷ 10 ∷ []) ≡ true → drop f s ≡ two_rest ++ (10 ∷ drop 3 (drop n (drop f s)))
  unfolding two_rest both
  two_split c =
      let t = drop f s in
      let w : drop (length (first (after t))) (after t) ≡ 44 ∷ 44 ∷ 10 ∷ drop 3 (drop n t) =
      sym (both_rest told_two) ∙ from_is t n (both_fits told_two) ∙ ending_is s (44 ∷ 44 ∷ 10 ∷ []) f n (word_fits s (Kind.WithTwo k) f h) (both_fits told_two) c in
      let p : after t ≡ first (after t) ++ (44 ∷ 44 ∷ 10 ∷ drop 3 (drop n t)) = first_rest (after t) ∙ ap (λ (l : List ℕ). first (after t) ++ l) w in
      first_after t told_two.several ∙ ap (λ (l : List ℕ). first t ++ (44 ∷ l)) p ∙ sym (simp append_assoc)

  pub two_leads : begins (from (from s f) n) (44 ∷ 44 ∷ 10 ∷ []) ≡ true → Leads s (two_step k a b) (f + n + 3)
  unfolding two_rest both breaks
  two_leads c =
      let t = drop f s in
      let fit = byte_fits (first t) a told_two.one in
      let fit-2 = byte_fits (first (after t)) b told_two.two in
      let z : breaks (44 ∷ first (after t)) ≡ 0 = omega (arith, fit-2.1) in
      leads s (record { kind = Kind.WithTwo k; end = f }) h two_rest (drop 3 (drop n t)) (two_split c) (two_step k a b) (f + n + 3) two_row
      (omega (arith, two_length))
      (clean both (44 ∷ 44 ∷ []) (clean (first t) (44 ∷ first (after t)) fit.1 z) refl)
      (omega (arith, two_length))
      (omega (arith, two_length, told_two.end, fit.0, fit-2.0))
      (last both (44 ∷ 44 ∷ []) (omega arith))
