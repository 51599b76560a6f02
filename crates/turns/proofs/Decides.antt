-- The public contract decides: any two results that it allows for the same arguments are equal, and so is every byte of the buffer. `Post` is
-- the contract as the checker reads it in src/, so a weaker contract is refused here. Assumes nothing.
use Rattle.std.proofs.Common.{ℕ, arith, List, ◌≡◌, refl, ap, length, take, take-append-drop, length-take-le}
use Rattle.turns.specs.Names.{Run, Went}
use Rattle.turns.specs.Turns.{Took}
use Rattle.turns.proofs.LineLaws.{one_set}
use Rattle.turns.proofs.steps.Reads as steps

module _ (s : List ℕ) (at row : ℕ) (run : Run) (d e f : List ℕ) (held kept : Run) (r w : Went) (p : Took s at row run d e held r) (q : Took s at row run d f kept w) where
  same_lines : p.lines ≡ q.lines
  same_lines =
      (one_set _ _ _ _ p.unbroken q.unbroken p.rest q.rest (cc (take-append-drop r.used s, take-append-drop w.used s))).0

  same_used : r.used ≡ w.used
  same_used = let z : take r.used s ≡ take w.used s = cc same_lines in omega (arith, length-take-le r.used s p.within, length-take-le w.used s q.within, ap length z)

  same_at : r.at ≡ w.at
  same_at = cc same_lines

  same_row : r.row ≡ w.row
  same_row = cc same_lines

  same_run : held ≡ kept
  same_run = cc same_lines

  went : (u o n : ℕ) → r.used ≡ u → r.at ≡ o → r.row ≡ n → r ≡ record { used = u; at = o; row = n }
  went u o n a b c = rw (← a, ← b, ← c) refl

  pub took_one : (r ≡ w) × (e ≡ f) × (held ≡ kept)
  took_one = (went w.used w.at w.row same_used same_at same_row, cc same_lines, same_run)

pub steps_decides : (κs : _) (a : _) (r w : Went) (s s' : _) → steps.Post κs a r s → steps.Post κs a w s'
    → (r ≡ w) × (s.1.0.now ≡ s'.1.0.now) × (s.1.1.1.1.0.now ≡ s'.1.1.1.1.0.now)
steps_decides κs a r w s s' p q = took_one _ _ _ _ _ _ _ _ _ r w p q
