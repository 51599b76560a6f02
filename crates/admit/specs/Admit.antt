-- Which steps are let in: clauses S12.2 and S12.3 of docs/SCOPE.md, in this order (S5.5), and a step's places counted from 0.
use Rattle.std.specs.Prelude.{ℕ, ◌-◌, Bool, false, cond, ◌&&◌, leb}
use Rattle.limits.specs.Limits.{most_clients, most_slots, most_steps, to_factory}
use Rattle.cabinet.specs.Entries.{reading_in}
use Rattle.admit.specs.Names.{Asked, Err, Ok, Refusal, Result, Step, Work}

-- S12.2: from 1 to the most
unfoldable pub one_to : ℕ → ℕ → Bool
one_to most x = leb 1 x && leb x most

-- S12.2, S5.1: a step of a known kind with its numbers in range
unfoldable pub in_range : ℕ → Step → Bool
in_range n Step.Other = false
in_range n (Step.Write c r) = one_to most_clients c && reading_in r
in_range n (Step.Read c) = one_to most_clients c
in_range n (Step.Send c k) = one_to most_clients c && one_to n k
in_range n (Step.Deliver j) = one_to most_slots j
in_range n (Step.Lose j) = one_to most_slots j
in_range n (Step.Stop k) = one_to n k
in_range n (Step.Leave c) = one_to most_clients c
in_range n (Step.Restart k) = one_to n k
in_range n (Step.Rollback k j) = one_to n k && one_to to_factory j

-- S5.1: what is asked for, with clients, cabinets and slots from 0
unfoldable pub placed : Step → Result Asked Refusal
placed Step.Other = Err Refusal.Range
placed (Step.Write c r) = Ok (Asked.Begins (c - 1) (Work.FirstWrite r))
placed (Step.Read c) = Ok (Asked.Begins (c - 1) Work.FirstRead)
placed (Step.Send c k) = Ok (Asked.Sends (c - 1) (k - 1))
placed (Step.Deliver j) = Ok (Asked.Delivers (j - 1))
placed (Step.Lose j) = Ok (Asked.Loses (j - 1))
placed (Step.Stop k) = Ok (Asked.Stops (k - 1))
placed (Step.Leave c) = Ok (Asked.Leaves (c - 1))
placed (Step.Restart k) = Ok (Asked.Restarts (k - 1))
placed (Step.Rollback k j) = Ok (Asked.RollsBack (k - 1) j)

-- S5.5: first S12.2, then S12.3
unfoldable pub admit_of : ℕ → ℕ → Step → Result Asked Refusal
admit_of n steps s = cond (in_range n s) (cond (leb most_steps steps) (Err Refusal.Limit) (placed s)) (Err Refusal.Range)
