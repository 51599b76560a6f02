-- The call over two buffers: clauses S15.4 to S15.7 of docs/SCOPE.md.
use Rattle.std.specs.Prelude.{ℕ, cond, List, eqb, Option, Some, None}
use Rattle.cabinet.specs.Entries.{takes}
use Rattle.firmware.specs.Names.{Entry, Verdict}
use Rattle.firmware.specs.Layout.{entry_of}

-- S15.4 taken, S15.5 kept, S15.6 refused
abbrev pub verdict_on : Option Entry → Option Entry → Verdict
verdict_on None o = Verdict.Refused
verdict_on (Some h) None = Verdict.Refused
verdict_on (Some h) (Some o) = cond (takes h o) Verdict.Taken Verdict.Kept

-- S15.4, S15.5, S15.6: the numbers of the three
abbrev pub number_of : Verdict → ℕ
number_of Verdict.Taken = 20
number_of Verdict.Kept = 21
number_of Verdict.Refused = 2

-- S15.4, S15.5, S15.6: what comes of an entry held and one offered, as a number
abbrev pub answers : Option Entry → Option Entry → ℕ
answers h o = number_of (verdict_on h o)

-- S15.4, S15.5, S15.6: what the call returns
unfoldable pub answer_of : List ℕ → List ℕ → ℕ
answer_of held offered = answers (entry_of held) (entry_of offered)

-- S15.4: taken, held is as offered; S15.5, S15.6: otherwise it is as it was
unfoldable pub held_after : List ℕ → List ℕ → List ℕ
held_after held offered = cond (eqb (answer_of held offered) 20) offered held
