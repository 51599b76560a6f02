-- The table of clauses S12.0 to S12.11, S12.14 and S12.16 of docs/SCOPE.md in its order (S5.5): each number with its check, then which
-- checks a list and a step meet.
use Rattle.std.specs.Prelude.{ℕ, ◌-◌, Bool, true, false, cond, not, ◌&&◌, ◌||◌, List, [], ◌∷◌, eqb, leb, ltb, length}
use Rattle.limits.specs.Limits.{most_steps, to_factory}
use Rattle.numbers.specs.Names.{Cabinet, Run, Slot, Step, Work}
use Rattle.cabinet.specs.Entries.{is_factory_stamp}
use Rattle.cabinet.specs.Cabinets.{present_of}
use Rattle.types.specs.Parts.{stored_in}
use Rattle.admit.specs.Admit.{in_range}
use Rattle.server.specs.Deeds.{is_down}
use Rattle.run.specs.Gather.{is_empty, others_from}
use Rattle.run.specs.Steps.{client_at, slot_at, cabinet_at, step_of}
use Rattle.run.specs.Undamaged.{undamaged}
use Rattle.desk.specs.Desk.{with_records, lent_of, table_of}
use Rattle.lists.specs.Whole.{most_listed}

-- S5.5: a line of the table: whether it applies, and its number
pub data Check : Type 0 where
  check : Bool → ℕ → Check

-- S5.5: the first that applies is the answer; S12.0: where none does, 0
abbrev pub first_of : List Check → ℕ
first_of [] = 0
first_of (check applies number ∷ l) = cond applies number (first_of l)

-- ---- the lines of the table; clients, cabinets and slots have the numbers of SCOPE.md, from 1

-- S12.16: too many steps, or too few places for their answers
abbrev pub no_room : ℕ → ℕ → Check
no_room count places = check (ltb most_listed count || ltb places count) 16

-- S12.14: the table has another length
abbrev pub other_length : Run → List Cabinet → Check
other_length run table = check (not (eqb (length table) run.plan.n)) 14

-- S12.1: the run is damaged
abbrev pub damaged : Run → Check
damaged run = check (not (undamaged run)) 1

-- S12.2: no kind, or a number out of range
abbrev pub out_of_range : Run → Step → Check
out_of_range run s = check (not (in_range run.plan.n s)) 2

-- S12.3: no step more
abbrev pub limit : Run → Check
limit run = check (leb most_steps run.steps) 3

-- S12.4: gone
abbrev pub is_gone : Work → Bool
is_gone Work.Idle = false
is_gone Work.Gone = true
is_gone (Work.FirstWrite r) = false
is_gone Work.FirstRead = false
is_gone Work.SecondWrite = false
is_gone Work.SecondRead = false

-- S12.4: the client is gone
abbrev pub has_left : Run → ℕ → Check
has_left run c = check (is_gone (client_at run (c - 1)).work) 4

-- S12.5, S12.6: idle
abbrev pub is_idle : Work → Bool
is_idle Work.Idle = true
is_idle Work.Gone = false
is_idle (Work.FirstWrite r) = false
is_idle Work.FirstRead = false
is_idle Work.SecondWrite = false
is_idle Work.SecondRead = false

-- S12.5: one operation at a time
abbrev pub not_idle : Run → ℕ → Check
not_idle run c = check (not (is_idle (client_at run (c - 1)).work)) 5

-- S12.6: nothing to send
abbrev pub idle : Run → ℕ → Check
idle run c = check (is_idle (client_at run (c - 1)).work) 6

-- S12.7: every slot has its message
unfoldable pub all_hold : List Slot → Bool
all_hold [] = true
all_hold (t ∷ l) = not (is_empty t.held) && all_hold l

-- S12.7: no slot is empty
abbrev pub full : Run → Check
full run = check (all_hold run.slots) 7

-- S12.8: nothing there
abbrev pub no_message : Run → ℕ → Check
no_message run j = check (is_empty (slot_at run (j - 1)).held) 8

-- S12.9: down already
abbrev pub already_down : Run → ℕ → Check
already_down run k = check (is_down (cabinet_at run (k - 1)).power) 9

-- S12.10: the factory entry is held already, or nothing so old is kept
abbrev pub lacks_older : Cabinet → ℕ → Bool
lacks_older k j = cond (eqb j to_factory) (is_factory_stamp (present_of k).stamp) (ltb (k.kept - 1) j)

-- S12.10: no store, or nothing to go back to
abbrev pub no_version : Run → ℕ → ℕ → Check
no_version run k j = check (not (stored_in run.plan (k - 1)) || lacks_older (cabinet_at run (k - 1)) j) 10

-- S12.11: one cabinet too many
abbrev pub too_many : Run → ℕ → Check
too_many run k = check (not (cabinet_at run (k - 1)).marked && leb run.plan.r (others_from (k - 1) 0 run.cabinets)) 11

-- ---- which checks a step meets, in order

-- S5.5: those of each kind of step alone
abbrev pub kind_checks : Run → Step → List Check
kind_checks run Step.Other = []
kind_checks run (Step.Write c r) = has_left run c ∷ not_idle run c ∷ []
kind_checks run (Step.Read c) = has_left run c ∷ not_idle run c ∷ []
kind_checks run (Step.Send c k) = has_left run c ∷ idle run c ∷ full run ∷ []
kind_checks run (Step.Deliver j) = no_message run j ∷ []
kind_checks run (Step.Lose j) = no_message run j ∷ []
kind_checks run (Step.Stop k) = already_down run k ∷ []
kind_checks run (Step.Leave c) = has_left run c ∷ []
kind_checks run (Step.Restart k) = []
kind_checks run (Step.Rollback k j) = no_version run k j ∷ too_many run k ∷ []

-- S5.5: S12.1, S12.2 and S12.3 of every step, then those of its kind
abbrev pub checks_of : Run → Step → List Check
checks_of run s = damaged run ∷ out_of_range run s ∷ limit run ∷ kind_checks run s

-- S5.5: the number that a step is answered
unfoldable pub table_number : Run → Step → ℕ
table_number run s = first_of (checks_of run s)

-- S12.14, S14.2: the number that a step over a lent table is answered; the damage check looks at the lent records
unfoldable pub lent_table_number : Run → List Cabinet → Step → ℕ
lent_table_number run table s = first_of (other_length run table ∷ checks_of (with_records run table) s)

-- ---- a list in one go

-- S12.16, S21.2: the number that comes back for the whole list
unfoldable pub list_table_number : ℕ → ℕ → ℕ
list_table_number count places = first_of (no_room count places ∷ [])

-- S21.3: the numbers of its steps
abbrev pub table_numbers : Run → List Step → List ℕ
table_numbers run [] = []
table_numbers run (s ∷ ss) = table_number run s ∷ table_numbers (step_of run s).run ss

-- S21.6: the same over a lent table
abbrev pub lent_table_numbers : Run → List Cabinet → List Step → List ℕ
lent_table_numbers run table [] = []
lent_table_numbers run table (s ∷ ss) = lent_table_number run table s ∷ lent_table_numbers (lent_of run table s).run (table_of run table s) ss
