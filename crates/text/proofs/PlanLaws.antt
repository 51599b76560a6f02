-- Laws of plan rows, which have four numbers: the first two are read as a pair, then the other two. Assumes nothing.
use Prim.Native.Nat.{ℕ, ◌+◌, ◌≤◌}
use native.Mathlib.Omega.{arith}
use mathlib.Core.Bool.{Bool, true, false, cond}
use mathlib.Core.Logic.{◌⊎◌, inr, ⊎_elim}
use mathlib.Core.List.{List, [], ◌∷◌}
use mathlib.Core.Path.{◌≡◌, refl, sym, ◌∙◌}
use lib.ListN.{length}
use lib.Dec.{eqb}
use borrow.Author.Tests.{eqb-true, eqb-false}
use Rattle.std.specs.Prelude.{Option, Some, None}
use Rattle.std.specs.Bool.{then_some}
use Rattle.text.specs.Fields.{split, number_of, unpadded}
use Rattle.text.specs.Pieces.{first, after, pair_at}
use Rattle.text.specs.Rows.{plan_by, row_by, row_as}
use Rattle.text.specs.Names.{Kind, Row}
use Rattle.text.proofs.FieldLaws.{from, others, split_is, unused}
use Rattle.text.proofs.PairLaws.{next, pair_no, both_told, both_fits, both_split, both_last, both_others}

-- no plan without a number in the third or the fourth
plan_no : (x y z w : Option ℕ) → (z ≡ None) ⊎ (w ≡ None) → plan_by x y z w ≡ None
plan_no None y z w h = refl
plan_no (Some a) None z w h = refl
plan_no (Some a) (Some b) None w h = refl
plan_no (Some a) (Some b) (Some c) None h = refl
plan_no (Some a) (Some b) (Some c) (Some d) h =
    absurd (⊎_elim (λ e. cc) (λ e. cc) h)

-- the third and the fourth, with no field behind them
abbrev plan_from : Option ℕ → Option ℕ → List ℕ → Option Row
plan_from x y t = cond (unused 0 (others (after t))) (plan_by x y (number_of (first t)) (number_of (first (after t)))) None

plan_half : (x y t : List ℕ) → row_as Kind.Plans (x ∷ y ∷ split t) ≡ plan_from (number_of x) (number_of y) t
unfolding row_as row_by unused first others number_of unpadded
plan_half x y t =
    rw (split_is t) (⊎_elim
    (λ o. rw (o.0, o.1) (sym (plan_no (number_of x) (number_of y) (number_of (first t)) None (inr refl))))
    (λ o. rw o (go (others (after t))))
    (next t))
  where
    go : (fs : List (List ℕ)) → row_as Kind.Plans (x ∷ y ∷ first t ∷ first (after t) ∷ fs)
        ≡ cond (unused 0 fs) (plan_by (number_of x) (number_of y) (number_of (first t)) (number_of (first (after t)))) None
    go [] = refl
    go (f ∷ fs) = refl

-- no plan without numbers in the first two
plan_bad : (x y : List ℕ) (fs : List (List ℕ)) → (number_of x ≡ None) ⊎ (number_of y ≡ None) → row_as Kind.Plans (x ∷ y ∷ fs) ≡ None
unfolding row_as row_by
plan_bad x y [] h = refl
plan_bad x y (c ∷ []) h = refl
plan_bad x y (c ∷ d ∷ []) h =
    ⊎_elim (λ e. rw e) (λ e. rw e (go (number_of x))) h
  where
    go : (z : Option ℕ) → plan_by z None (number_of c) (number_of d) ≡ None
    go None = refl
    go (Some a) = refl
plan_bad x y (c ∷ d ∷ e ∷ fs) h = refl

pub plan_none : (s : List ℕ) → pair_at s ≡ None → None ≡ row_as Kind.Plans (split s)
unfolding row_as pair_at
plan_none s e =
    sym (rw (split_is s) (⊎_elim
    (λ o. rw o.0)
    (λ o. rw o (plan_bad (first s) (first (after s)) (others (after s)) (pair_no (number_of (first s)) (number_of (first (after s))) _ e)))
    (next s)))

module _ (s : List ℕ) (n k i : ℕ) (e : pair_at s ≡ Some (n, k, i)) where
  pub plan_short : i ≡ length s → None ≡ row_as Kind.Plans (split s)
  unfolding row_as
  plan_short h = let p = both_told s n k i e in sym (rw (both_split p, both_last p h))

  module _ (h : i + 1 ≤ length s) (t : List ℕ) (is : t ≡ from s (i + 1)) where
    plan_rest : row_as Kind.Plans (split s) ≡ plan_from (Some n) (Some k) t
    plan_rest =
        let p = both_told s n k i e in
        rw (both_split p, both_others p h, ← is)
        (plan_half (first s) (first (after s)) t ∙ rw (p.one, p.two))

    pub plan_half_none : pair_at t ≡ None → None ≡ row_as Kind.Plans (split s)
    unfolding pair_at
    plan_half_none f =
        let bad = pair_no (number_of (first t)) (number_of (first (after t))) _ f in
        sym (plan_rest ∙ go (unused 0 (others (after t))) (plan_no (Some n) (Some k) (number_of (first t)) (number_of (first (after t))) bad))
      where
        go : {x : Option Row} (u : Bool) → x ≡ None → cond u x None ≡ None
        go true q = q
        go false q = refl

    pub plan_is : (r b j : ℕ) → pair_at t ≡ Some (r, b, j) → then_some (eqb j (length t)) (Row.Plan n k r b) ≡ row_as Kind.Plans (split s)
    unfolding unused
    plan_is r b j f =
        let p = both_told t r b j f in
        sym (plan_rest ∙ rw (p.one, p.two) (go (eqb j (length t)) refl))
      where
        go : (u : Bool) → eqb j (length t) ≡ u
            → cond (unused 0 (others (after t))) (Some (Row.Plan n k r b)) None ≡ then_some u (Row.Plan n k r b)
        go true q = rw (both_last (both_told t r b j f) (eqb-true _ _ q))
        go false q =
            let p = both_told t r b j f in
            let more : j + 1 ≤ length t = omega (arith, both_fits p, eqb-false _ _ q) in
            rw (both_others p more ∙ split_is (from t (j + 1)))
