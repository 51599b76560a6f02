-- The places of a step that was let in: each is one that the run has. Assumes nothing.
use Rattle.std.proofs.Common.{ℕ, ◌≤◌, ◌<◌, ◌≡◌, true, arith}
use Rattle.std.proofs.lemmas.Bool.Decides.{nat_tests}
use Rattle.limits.specs.Limits.{most_clients, most_slots, most_steps, to_factory}
use Rattle.cabinet.specs.Entries.{reading_in}
use Rattle.admit.specs.Names.{Asked, Err, Ok, Refusal, Result, Step, Work}
use Rattle.admit.specs.Admit.{one_to, in_range, placed, admit_of}

-- ---- the tests

pub one_to_is : (most x : ℕ) → one_to most x ≡ true → (1 ≤ x) × (x ≤ most)
unfolding one_to
one_to_is most x e = grind (arith, nat_tests)

-- ---- the places of a step that was let in

-- a write or a read begins with a first part, and what is to be written is in range
abbrev pub FirstIn : Work → Type 0
FirstIn Work.Idle = ⊥
FirstIn Work.Gone = ⊥
FirstIn (Work.FirstWrite r) = reading_in r ≡ true
FirstIn Work.FirstRead = Unit {0}
FirstIn Work.SecondWrite = ⊥
FirstIn Work.SecondRead = ⊥

-- clients below 8, cabinets below n, slots below 64, and 1 to 8 for a rollback
abbrev pub Placed : ℕ → Result Asked Refusal → Type 0
Placed n (Err why) = Unit {0}
Placed n (Ok (Asked.Begins i w)) = (i < most_clients) × FirstIn w
Placed n (Ok (Asked.Sends i p)) = (i < most_clients) × (p < n)
Placed n (Ok (Asked.Delivers j)) = j < most_slots
Placed n (Ok (Asked.Loses j)) = j < most_slots
Placed n (Ok (Asked.Stops p)) = p < n
Placed n (Ok (Asked.Leaves i)) = i < most_clients
Placed n (Ok (Asked.Restarts p)) = p < n
Placed n (Ok (Asked.RollsBack p j)) = (p < n) × (1 ≤ j) × (j ≤ to_factory)

pub range_placed : (n : ℕ) (s : Step) → in_range n s ≡ true → Placed n (placed s)
unfolding in_range placed
range_placed n s e = grind (arith, nat_tests, one_to_is)

-- a step is barred, or it is in range and fewer than 1,000,000 steps were accepted before it
pub admitted_by : (n steps : ℕ) (s : Step) (P : Result Asked Refusal → Type 0) → ((why : Refusal) → P (Err why))
    → (in_range n s ≡ true → steps < most_steps → P (placed s)) → P (admit_of n steps s)
unfolding admit_of
admitted_by n steps s P f g = grind (arith, nat_tests, f, g)

pub admitted_placed : (n steps : ℕ) (s : Step) → Placed n (admit_of n steps s)
unfolding admit_of
admitted_placed n steps s = grind (arith, nat_tests, range_placed)
