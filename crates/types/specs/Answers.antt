-- The numbers that come back: clauses S12.0 to S12.11 of docs/SCOPE.md; S18.7: each case of an answer has its number.
use Rattle.std.specs.Prelude.{ℕ}
use Rattle.types.specs.Names.{Answer, Err, Ok, Refusal}

-- S5.2, S18.7: the number of a refusal
abbrev pub refusal_number : Refusal → ℕ
-- S12.1: damaged
refusal_number Refusal.Damaged = 1
-- S12.2: no kind, or a number out of range
refusal_number Refusal.Range = 2
-- S12.3: no step more
refusal_number Refusal.Limit = 3
-- S12.4: the client is gone
refusal_number Refusal.HasLeft = 4
-- S12.5: one operation at a time
refusal_number Refusal.NotIdle = 5
-- S12.6: nothing to send
refusal_number Refusal.IsIdle = 6
-- S12.7: no room on the air
refusal_number Refusal.Full = 7
-- S12.8: nothing there
refusal_number Refusal.NoMessage = 8
-- S12.9: down already
refusal_number Refusal.IsDown = 9
-- S12.10: nothing so old is kept
refusal_number Refusal.NoVersion = 10
-- S12.11: one cabinet too many
refusal_number Refusal.TooMany = 11

-- S12.0: accepted is 0
abbrev pub answer_number : Answer → ℕ
answer_number (Ok o) = 0
answer_number (Err w) = refusal_number w
