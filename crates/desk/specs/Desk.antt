-- A step over a lent table, the step of the run that has these records: clauses S12.14 and S14 of docs/SCOPE.md.
use Rattle.std.specs.Prelude.{ℕ, ◌-◌, min, cond, List, ◌++◌, eqb, length, take, drop, replicate}
use Rattle.limits.specs.Limits.{most_cabinets}
use Rattle.desk.specs.Names.{Cabinet, Err, Lent, Local, Ok, Run, Served, Step, Stepped}
use Rattle.cabinet.specs.Cabinets.{fresh_cabinet}
use Rattle.types.specs.Answers.{answer_number}
use Rattle.run.specs.Steps.{step_of}

-- S12.14, S18.7: the number that comes back, 14 or that of the step
abbrev pub lent_number : Lent → ℕ
lent_number (Err w) = 14
lent_number (Ok a) = answer_number a

-- S14.2: the run with other cabinets
unfoldable pub with_cabinets : Run → List Cabinet → Run
with_cabinets run l = record { plan = run.plan; steps = run.steps; cabinets = l; clients = run.clients; slots = run.slots }

-- S14.2, S14.4: the lent records in place of the run's own; past them are fresh cabinets, so that the run's own are not read
unfoldable pub with_records : Run → List Cabinet → Run
with_records run table = with_cabinets run (table ++ replicate (most_cabinets - length table) fresh_cabinet)

-- S14.2, S14.4: the nine records that stand in the run while it is lent a table: no more than nine of the table, and fresh cabinets past them
unfoldable pub nine_of : List Cabinet → List Cabinet
nine_of table = take (min (length table) most_cabinets) table ++ replicate (most_cabinets - length table) fresh_cabinet

-- S14.3: the table with the records that come back; what was not lent is as it was
unfoldable pub given_back : List Cabinet → List Cabinet → List Cabinet
given_back records table = take (min (length table) most_cabinets) records ++ drop (min (length table) most_cabinets) table

-- S14.2: the step of the run that has these records
unfoldable pub viewed : Run → List Cabinet → Step → Stepped
viewed run table s = step_of (with_records run table) s

-- S14.4: the run's own records are put back
unfoldable pub answered : Run → Stepped → Served
answered run z = record { answer = Ok z.answer; run = with_cabinets z.run run.cabinets }

-- S5.4: a refusal changes nothing
abbrev pub wrong_length : Run → Served
wrong_length run = record { answer = Err (record {}); run = run }

-- S12.14, S14.1: answer 14 before all others, by the n that the run says; S14.2: otherwise as the first entrance
unfoldable pub lent_of : Run → List Cabinet → Step → Served
lent_of run table s = cond (eqb (length table) run.plan.n) (answered run (viewed run table s)) (wrong_length run)

-- S14.3: the table afterwards; S14.1: refused, it is as it was
unfoldable pub table_of : Run → List Cabinet → Step → List Cabinet
table_of run table s = cond (eqb (length table) run.plan.n) (take (length table) (viewed run table s).run.cabinets) table

-- S14.1: the first `len` records of an array are lent, and the others stay as they are
unfoldable pub local_of : Run → List Cabinet → ℕ → Step → Local
local_of run table len s = record { served = lent_of run (take len table) s; table = table_of run (take len table) s ++ drop len table }
