-- What a step decides: its refusal, or its outcome and the one change that it makes: clauses S5.2 and S5.6 of docs/SCOPE.md.
-- For the definitions alone: code stores the change itself.
use Rattle.std.specs.Prelude.{ℕ}
use Rattle.types.specs.Names.{Client, Entry, Outcome, Refusal, Slot}

-- S7.5, S9.2, S10.1, S11.4: a cabinet weighs an offer, goes down, comes up, or comes up with the version so many places older
pub data Deed : Type 0 where
  Weigh : Entry → Deed
  GoDown : Deed
  ComeUp : Deed
  GoBack : ℕ → Deed

-- S5.6: no step changes both a client and a cabinet; `Hearing` also empties its slot (S8.1), `Offering` puts the reply there (S7.3)
pub data Change : Type 0 where
  OfClient : ℕ → Client → Change
  OfSlot : ℕ → Slot → Change
  OfCabinet : ℕ → Deed → Change
  Hearing : ℕ → Client → ℕ → Change
  Offering : ℕ → Entry → ℕ → Slot → Change

-- S5.2: refused, or accepted with an outcome
pub data Decision : Type 0 where
  No : Refusal → Decision
  Yes : Outcome → Change → Decision
