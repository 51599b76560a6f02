-- A row without its end is what the bytes behind its place begin with. Assumes nothing.
use Rattle.std.proofs.Common.{◌≡◌, ℕ, ◌-◌, ◌≤◌, Bool, true, false, cond, eqb, List, length, get_or, take, drop, sym, ap, ◌∙◌, arith}
use Rattle.std.proofs.lemmas.List.{length-take, length-take-le, take_all, take-take, take_rest}
use Rattle.text.specs.Ends.{unended}

-- without one CR at their end bytes are what they begin with
unended_front : (l : List ℕ) → (unended l ≡ take (length (unended l)) l) × (length (unended l) ≤ length l)
unfolding unended
unended_front l = go (eqb (get_or l (length l - 1) 0) 13)
  where
    go : (t : Bool) → let m = cond t (take (length l - 1) l) l in (m ≡ take (length m) l) × (length m ≤ length l)
    go true =
        let e = length-take-le (length l - 1) l (omega arith) in
        (ap (λ (n : ℕ). take n l) (sym e), omega (arith, e))
    go false = (sym (take_all (length l) l (omega arith)), omega arith)

-- the row that ends before the LF at e
pub row_lies : (s : List ℕ) (from e : ℕ) (row : List ℕ) → row ≡ unended (take e (take (length s - from) (drop from s))) → row ≡ take (length row) (drop from s)
row_lies s from e row h =
    let m : List ℕ = take e (drop from s) in
    let q = unended_front m in
    let k : row ≡ unended m = h ∙ ap (λ (l : List ℕ). unended (take e l)) (take_rest s from) in
    rw k (q.0 ∙ take-take (length (unended m)) e (drop from s) (omega (arith, q.1, length-take e (drop from s))))
