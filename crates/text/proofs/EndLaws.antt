-- Where a row ends: its CR, its LF, and that one row alone stands at the front of some bytes. Assumes nothing.
use Prim.Native.Nat.{ℕ, suc, ◌+◌, ◌-◌, ◌<◌, ◌≤◌}
use native.Mathlib.Omega.{arith}
use mathlib.Core.Bool.{true, false, and-true}
use mathlib.Core.List.{List, [], ◌∷◌, ◌++◌, append_assoc}
use mathlib.Core.Path.{◌≡◌, refl, sym, ◌∙◌, ap}
use lib.ListN.{length, get_or, take, drop, length-append, length-drop, length-take, take-append-drop, drop_of_length-le}
use lib.Seq.{drop-cons, take-suc}
use lib.Dec.{eqb}
use lib.Pointwise.{pointwise}
use denote.Bor.{Bor}
use native.Mathlib.Numerals.{add-one}
use borrow.Author.Tests.{eq-eqb, ne_eqb}
use Rattle.std.specs.Prelude.{Option, Some, None, MatchOption, unwrap_or}
use Rattle.text.specs.Names.{Found, Step}
use Rattle.text.specs.Ends.{unended, breaks, step_in, Finds, Leads}
use Rattle.text.specs.Rows.{row_of}
use Rattle.text.proofs.BreakLaws.{breaks_append}

-- ---- a CR at a row's end

gone : (l : List ℕ) (i : ℕ) → length l ≤ i → drop i l ≡ []
gone l i h = drop_of_length-le l h

-- the code's test of the last byte
last_is : (l : List ℕ) → pointwise eqb (drop (length l - 1) l) (13 ∷ []) ≡ eqb (get_or l (length l - 1) 0) 13
last_is [] = refl
last_is (x ∷ m) =
    let n : length (x ∷ m) - 1 < length (x ∷ m) = omega arith in
    let last_gone : drop (suc (length (x ∷ m) - 1)) (x ∷ m) ≡ [] = gone (x ∷ m) (suc (length (x ∷ m) - 1)) (omega arith) in
    rw (drop-cons (x ∷ m) (length (x ∷ m) - 1) 0 n, last_gone, and-true)

-- what `strip_suffix` leaves, or the whole
pub trimmed : (l : List ℕ) (r : Option (Bor (List ℕ))) (d : Bor (List ℕ)) → d.now ≡ l
    → MatchOption r (pointwise eqb (drop (length l - 1) l) (13 ∷ []) ≡ false)
    (λ x. (pointwise eqb (drop (length l - 1) l) (13 ∷ []) ≡ true) × (x.now ≡ take (length l - 1) l) × (length x.now + 1 ≡ length l))
    → (unwrap_or r d).now ≡ unended l
unfolding unended
trimmed l None d w m = rw (sym (last_is l) ∙ m) w
trimmed l (Some x) d w m = rw (sym (last_is l) ∙ m.0) m.1

-- a comma, whose byte is 44, is no CR
pub unended_bare : (l : List ℕ) → get_or l (length l - 1) 0 ≡ 44 → unended l ≡ l
unfolding unended
unended_bare l e = rw (ne_eqb (get_or l (length l - 1) 0) 13 (λ f. omega arith))

-- ---- a row with its LF

-- the row up to the LF at e
pub ended_row : (s : List ℕ) (e : ℕ) (l : List ℕ) (x : Step) → e < length s → get_or s e 0 ≡ 10 → breaks (take e s) ≡ 0
    → l ≡ unended (take e s) → x ≡ step_in (row_of l) → Leads s x (e + 1)
ended_row s e l x h lf bare le xe =
    record {
      within = omega arith;
      row =
          record {
            line = take e s;
            ends = rw (add-one, take-suc s e 0 h, lf);
            unbroken = bare;
            asks = ap (λ (z : List ℕ). step_in (row_of z)) (sym le) ∙ sym xe;
          };
    }

lead_length : (s : List ℕ) (x : Step) (n : ℕ) (l : Leads s x n) → n ≡ length l.row.line + 1
lead_length s x n l = omega (arith, l.within, length-take n s, ap length l.row.ends, length-append l.row.line (10 ∷ []))

-- ---- one row only

broken : (b : ℕ) (l : List ℕ) → b ≡ 10 → breaks (b ∷ l) ≡ 0 → ⊥
unfolding breaks
broken b l e h = let g : 1 + breaks l ≡ 0 = rw (eq-eqb b 10 e) at h in omega arith

-- a line ends at the first LF
pub line_is : (l m p q : List ℕ) → breaks l ≡ 0 → breaks m ≡ 0 → l ++ (10 ∷ p) ≡ m ++ (10 ∷ q) → l ≡ m
unfolding breaks
line_is [] [] p q h g e = refl
line_is [] (c ∷ m) p q h g e = absurd (broken c m (cc) g)
line_is (b ∷ l) [] p q h g e = absurd (broken b l (cc) h)
line_is (b ∷ l) (c ∷ m) p q h g e =
    let d : b ≡ c = cc in
    let r : l ≡ m = line_is l m p q (omega arith) (omega arith) (cc) in
    cc

lead_is : (s : List ℕ) (x : Step) (n : ℕ) (l : Leads s x n) → s ≡ l.row.line ++ (10 ∷ drop n s)
lead_is s x n l = sym (take-append-drop n s) ∙ rw (l.row.ends, append_assoc)

lead_one : (s : List ℕ) (x y : Step) (n m : ℕ) → Leads s x n → Leads s y m → (x ≡ y) × (n ≡ m)
lead_one s x y n m l r =
    let e : l.row.line ≡ r.row.line = line_is l.row.line r.row.line (drop n s) (drop m s) l.row.unbroken r.row.unbroken (sym (lead_is s x n l) ∙ lead_is s y m r) in
    (sym l.row.asks ∙ ap (λ (z : List ℕ). step_in (row_of (unended z))) e ∙ r.row.asks, omega (arith, lead_length s x n l, lead_length s y m r, ap length e))

-- a row is there or is not
lead_some : (s : List ℕ) (x : Step) (n : ℕ) → Leads s x n → breaks s ≡ 0 → ⊥
unfolding breaks
lead_some s x n l h = let b : breaks (l.row.line ++ (10 ∷ drop n s)) ≡ 0 = rw (lead_is s x n l) at h in omega (arith, breaks_append l.row.line (10 ∷ drop n s))

found_leads : (s : List ℕ) (i : ℕ) → i ≤ length s → (f : Found) → Finds s i (Some f) → Leads (drop i s) f.step (f.end - i)
found_leads s i w f p = record { within = omega (arith, length-drop i s, p.1); row = p.2 }

-- any two finds agree
pub found_one : (s : List ℕ) (i : ℕ) → i ≤ length s → (x y : Option Found) → Finds s i x → Finds s i y → x ≡ y
found_one s i w None None p q = refl
found_one s i w None (Some g) p q = absurd (lead_some (drop i s) g.step (g.end - i) (found_leads s i w g q) p)
found_one s i w (Some f) None p q = absurd (lead_some (drop i s) f.step (f.end - i) (found_leads s i w f p) q)
found_one s i w (Some f) (Some g) p q =
    let z = lead_one (drop i s) f.step g.step (f.end - i) (g.end - i) (found_leads s i w f p) (found_leads s i w g q) in
    let e : f.end ≡ g.end = omega (arith, z.1, p.0, q.0) in
    ap (λ (x : Step). Some (record { step = x; end = f.end })) z.0 ∙ ap (λ (n : ℕ). Some (record { step = g.step; end = n })) e
