-- The parts of a fresh run (clauses S4.5 and S4.6 of docs/SCOPE.md), what an array reads where it has nothing, and what a step
-- looks at of a cabinet.
use Rattle.std.specs.Prelude.{Bool, true, false, [], ℕ, ltb}
use Rattle.types.specs.Names.{Cabinet, Client, Held, Plan, Power, Profile, Sight, Slot, Work}
use Rattle.cabinet.specs.Entries.{factory_entry}
use Rattle.cabinet.specs.Cabinets.{present_of}
use Rattle.heard.specs.Heard.{none_heard}

-- S4.6: nothing in it
abbrev pub empty_slot : Slot
empty_slot = record { held = Held.Empty }

-- S4.5: idle, under number 0
abbrev pub fresh_client : Client
fresh_client = record { operation = 0; work = Work.Idle; heard = none_heard; best = factory_entry }

-- past an array's end; no step reads there
abbrev pub no_cabinet : Cabinet
no_cabinet = record { versions = []; kept = 0; power = Power.Down; marked = false }

-- S4.2: of a record what a step asks about: the present version, how many are kept, up or down, marked or not
abbrev pub sight_of : Cabinet → Sight
sight_of k = record { present = present_of k; kept = k.kept; power = k.power; marked = k.marked }

-- S3.4: the first cabinets have a store; S3.3: of a forgetful line none has
abbrev pub stored_in : Plan → ℕ → Bool
stored_in p k = ltb k p.stores

-- S10.4: the profile in which a restart makes stale
abbrev pub is_forgetful : Profile → Bool
is_forgetful Profile.Forgetful = true
is_forgetful Profile.Store = false
