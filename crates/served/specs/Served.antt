-- The events of a list of steps over a lent table (clauses S14.1 to S14.4 and S19.6 of docs/SCOPE.md): each step goes to the run and the
-- table that the one before left.
use Rattle.std.specs.Prelude.{List, [], ◌∷◌, replicate}
use Rattle.served.specs.Names.{Cabinet, Err, Lent, Ok, Run, Step}
use Rattle.cabinet.specs.Cabinets.{fresh_cabinet}
use Rattle.desk.specs.Desk.{lent_of, table_of}
use Rattle.promise.specs.Events.{Event, nothing, answer_event}

-- S19.6: the event of an answer, that of crate promise, with the desk's own run before and after the step; 14 has none
abbrev pub lent_event_by : Lent → Run → Step → Run → Event
lent_event_by (Err w) run s after = nothing
lent_event_by (Ok a) run s after = answer_event run s after a

-- S19.6: the event of one step
unfoldable pub lent_event : Run → List Cabinet → Step → Event
lent_event run table s = lent_event_by (lent_of run table s).answer run s (lent_of run table s).run

-- S19.6: of each step of a list
abbrev pub lent_events : Run → List Cabinet → List Step → List Event
lent_events run table [] = []
lent_events run table (s ∷ ss) = lent_event run table s ∷ lent_events (lent_of run table s).run (table_of run table s) ss

-- S4.4: a table for a fresh run, of n fresh records
abbrev pub fresh_table : Run → List Cabinet
fresh_table run = replicate run.plan.n fresh_cabinet
