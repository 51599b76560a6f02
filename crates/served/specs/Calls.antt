-- What a desk does by lists in one go (clause S21.7 of docs/SCOPE.md): one call after another, over the run's own records or a lent table; the
-- steps that each takes, and the events of them.
use Rattle.std.specs.Prelude.{ℕ, cond, List, [], ◌∷◌, ◌++◌, length, take}
use Rattle.served.specs.Names.{Cabinet, Run, Step}
use Rattle.lists.specs.Whole.{fits, first_list_of}
use Rattle.desk_lists.specs.Lent.{lent_first_of}
use Rattle.promise.specs.Events.{Event, events}
use Rattle.served.specs.Served.{lent_events}

-- S21.1: what a call is given: steps, how many of them are the list, and a table for the answers
pub record Call : Type 0 where
  pub steps : List Step
  pub count : ℕ
  pub answers : List ℕ

-- S21.1: the call of a whole list: all of its steps
abbrev pub whole_call : List Step → List ℕ → Call
whole_call steps answers = record { steps = steps; count = length steps; answers = answers }

-- S21.2, S21.3: the steps that it takes
unfoldable pub taken_by : Call → List Step
taken_by c = cond (fits c.count (length c.answers)) (take c.count c.steps) []

-- S21.7: of all calls, in order
abbrev pub taken_by_all : List Call → List Step
taken_by_all [] = []
taken_by_all (c ∷ cs) = taken_by c ++ taken_by_all cs

-- S21.3: the run after a call
abbrev pub run_by : Run → Call → Run
run_by run c = (first_list_of run c.steps c.count c.answers).0.run

-- S21.7: the events of calls: those of the steps of each, in order
abbrev pub call_events : Run → List Call → List Event
call_events run [] = []
call_events run (c ∷ cs) = events run (taken_by c) ++ call_events (run_by run c) cs

-- S21.6: the run and the records after a call over a lent table
abbrev pub lent_run_by : Run → List Cabinet → Call → Run
lent_run_by run records c = (lent_first_of run records c.steps c.count c.answers).0.run

-- S21.6
abbrev pub lent_table_by : Run → List Cabinet → Call → List Cabinet
lent_table_by run records c = (lent_first_of run records c.steps c.count c.answers).1

-- S21.7: the events of calls over a lent table
abbrev pub lent_call_events : Run → List Cabinet → List Call → List Event
lent_call_events run records [] = []
lent_call_events run records (c ∷ cs) =
    lent_events run records (taken_by c) ++ lent_call_events (lent_run_by run records c) (lent_table_by run records c) cs
