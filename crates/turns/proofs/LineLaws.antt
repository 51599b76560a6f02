-- Lines and steps, with one more at their end, and that bytes have one set of lines. Assumes nothing.
use Rattle.std.proofs.Common.{ℕ, suc, ◌+◌, arith, List, [], ◌∷◌, ◌++◌, append_assoc, append-nil, ◌≡◌, refl, sym, ◌∙◌, ap, length}
use Rattle.turns.specs.Names.{Run, Step}
use Rattle.run.specs.Lists.{run_all}
use Rattle.run.specs.Steps.{step_of}
use Rattle.text.specs.Ends.{unended, breaks, step_in}
use Rattle.text.specs.Rows.{row_of}
use Rattle.text.proofs.BreakLaws.{breaks_append}
use Rattle.text.proofs.EndLaws.{line_is}
use Rattle.print.specs.Rows.{step_text}
use Rattle.turns.specs.Turns.{closed, breaks_in, steps_in, text_all}

-- ---- one more

pub closed_more : (ls : List (List ℕ)) (l : List ℕ) → closed (ls ++ (l ∷ [])) ≡ closed ls ++ (l ++ (10 ∷ []))
unfolding closed
closed_more [] l = refl
closed_more (k ∷ ls) l = rw (closed_more ls l, append_assoc)

pub unbroken_more : (ls : List (List ℕ)) (l : List ℕ) → breaks_in ls ≡ 0 → breaks l ≡ 0 → breaks_in (ls ++ (l ∷ [])) ≡ 0
unfolding breaks_in
unbroken_more [] l e f = omega (arith, f)
unbroken_more (k ∷ ls) l e f = let h : breaks_in (ls ++ (l ∷ [])) ≡ 0 = unbroken_more ls l (omega arith) f in omega arith

pub steps_more : (ls : List (List ℕ)) (l : List ℕ) → steps_in (ls ++ (l ∷ [])) ≡ steps_in ls ++ (step_in (row_of (unended l)) ∷ [])
unfolding steps_in
steps_more [] l = refl
steps_more (k ∷ ls) l = rw (steps_more ls l)

pub steps_length : (ls : List (List ℕ)) → length (steps_in ls) ≡ length ls
unfolding steps_in
steps_length [] = refl
steps_length (l ∷ ls) = ap suc (steps_length ls)

pub text_more : (n : ℕ) (run : Run) (xs : List Step) (x : Step)
    → text_all n run (xs ++ (x ∷ [])) ≡ text_all n run xs ++ step_text (n + length xs) (step_of (run_all run xs) x).answer
unfolding text_all run_all
text_more n run [] x = let e : n + 0 ≡ n = omega arith in rw (e, append-nil)
text_more n run (y ∷ xs) x =
    let e : n + 1 + length xs ≡ n + suc (length xs) = omega arith in
    rw (text_more (n + 1) (step_of run y).run xs x, append_assoc, e)

-- ---- one set of lines

no_line : (l : List ℕ) (ls : List (List ℕ)) (p q : List ℕ) → breaks p ≡ 0 → p ≡ (l ++ (10 ∷ closed ls)) ++ q → ⊥
unfolding breaks
no_line l ls p q h e = grind (arith, breaks_append (l ++ (10 ∷ closed ls)) q, breaks_append l (10 ∷ closed ls))

behind : (l k z : List ℕ) → l ++ (10 ∷ k) ≡ l ++ (10 ∷ z) → k ≡ z
behind [] k z e = cc
behind (b ∷ l) k z e = behind l k z cc

pub one_set : (ls ms : List (List ℕ)) (p q : List ℕ) → breaks_in ls ≡ 0 → breaks_in ms ≡ 0 → breaks p ≡ 0 → breaks q ≡ 0
    → closed ls ++ p ≡ closed ms ++ q → (ls ≡ ms) × (p ≡ q)
unfolding closed breaks_in
one_set [] [] p q a b h k e = (refl, e)
one_set [] (m ∷ ms) p q a b h k e = absurd (no_line m ms p q h e)
one_set (l ∷ ls) [] p q a b h k e = absurd (no_line l ls q p k (sym e))
one_set (l ∷ ls) (m ∷ ms) p q a b h k e =
    let f : l ++ (10 ∷ (closed ls ++ p)) ≡ m ++ (10 ∷ (closed ms ++ q)) = sym (append_assoc l (10 ∷ closed ls) p) ∙ e ∙ append_assoc m (10 ∷ closed ms) q in
    let g : l ≡ m = line_is l m (closed ls ++ p) (closed ms ++ q) (omega arith) (omega arith) f in
    let o =
    one_set ls ms p q (omega arith) (omega arith) h k
    (behind l (closed ls ++ p) (closed ms ++ q) (f ∙ ap (λ (x : List ℕ). x ++ (10 ∷ (closed ms ++ q))) (sym g))) in
    (ap (λ (x : List ℕ). x ∷ ls) g ∙ ap (λ (x : List (List ℕ)). m ∷ x) o.0, o.1)
