-- Which plans are worth choosing, over the planning rule's own answers. No clause of docs/SCOPE.md asks for it; docs/DECISIONS.md
-- has the reason.
use Rattle.std.specs.Prelude.{ℕ, ◌+◌, Bool, false, ◌&&◌, not, leb}
use Rattle.plan.specs.Rule.{plan_of}
use Rattle.plans.specs.Names.{Err, Ok, Plan, Planned}

-- an accepted plan that needs no more stores than these
abbrev pub affords : Planned → ℕ → Bool
affords (Err why) s = false
affords (Ok q) s = leb q.stores s

-- with no more stores the line cannot bear one more faulty cabinet, nor one more that rolls back, nor one more sound one that restarts
unfoldable pub worth : Plan → Bool
worth p =
    not (affords (plan_of p.n (p.k + 1) p.r p.b) p.stores)
    && (not (affords (plan_of p.n p.k (p.r + 1) p.b) p.stores)
    && not (affords (plan_of p.n p.k p.r (p.b + 1)) p.stores))
