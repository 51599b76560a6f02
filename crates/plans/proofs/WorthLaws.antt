-- What `worth` promises: among all plans of its line that need no more stores, a plan that is worth choosing has none above it. Assumes nothing.
use Prim.Native.Nat.{ℕ, ◌+◌, ◌*◌, ◌≤◌}
use mathlib.Core.Path.{◌≡◌}
use mathlib.Core.Bool.{true}
use mathlib.Core.Logic.{◌⊎◌}
use native.Mathlib.Omega.{arith}
use Rattle.std.proofs.lemmas.Bool.Decides.{leb_tells}
use Rattle.plans.specs.Names.{Ok, Plan}
use Rattle.plan.specs.Rule.{chosen, plan_of}
use Rattle.plan.proofs.RuleLaws.{InRange, ranges, ranged, numbers}
use Rattle.plans.specs.Worth.{affords, worth}

module _ (n k r b : ℕ) where
  -- the two ways to have a plan with at most s stores
  abbrev Affordable : ℕ → Type 0
  Affordable s = (2 * k + b + 1 ≤ n) ⊎ ((2 * k + r + 1 ≤ n) × (2 * k + r + 1 ≤ s))

  affordable : (p : Plan) → plan_of n k r b ≡ Ok p → InRange n k r b × Affordable p.stores
  unfolding plan_of chosen
  affordable p h = grind (arith, ranges, leb_tells)

  affords_it : (s : ℕ) → InRange n k r b → Affordable s → affords (plan_of n k r b) s ≡ true
  unfolding plan_of chosen
  affords_it s i a = grind (arith, ranged, leb_tells)

-- A plan with more of one number and less of none needs more stores. Raise k first, then r, then b: every step stays in range, for r ≤ k.
pub none_better : (n k r b : ℕ) (p : Plan) → plan_of n k r b ≡ Ok p → worth p ≡ true
    → (k' r' b' : ℕ) (q : Plan) → plan_of n k' r' b' ≡ Ok q → k ≤ k' → r ≤ r' → b ≤ b' → q.stores ≤ p.stores
    → (k' ≡ k) × (r' ≡ r) × (b' ≡ b)
unfolding worth
none_better n k r b p accepted best k' r' b' q given hk hr hb hs =
    grind (arith, numbers n k r b p accepted, affordable n k r b p accepted, affordable n k' r' b' q given, affords_it)
