-- A cabinet stops, restarts or rolls back: clauses S9.2, S10.1, S11.4, S11.7 and S12.9 to S12.11 of docs/SCOPE.md.
use Rattle.std.specs.Prelude.{ℕ, Bool, true, false, cond, ◌||◌, ltb}
use Rattle.server.specs.Names.{Cabinet, Change, Decision, Deed, Outcome, Plan, Power, Refusal, Sight}
use Rattle.cabinet.specs.Cabinets.{offered, stopped, restarted, has_version, rolled_back}
use Rattle.types.specs.Parts.{stored_in, is_forgetful}

-- S12.9: down
abbrev pub is_down : Power → Bool
is_down Power.Down = true
is_down Power.Up = false
is_down Power.Stale = false

-- S9.2: it goes down, S12.9: unless it is down
abbrev pub stops_when : Power → ℕ → Decision
stops_when Power.Down p = Decision.No Refusal.IsDown
stops_when Power.Up p = Decision.Yes Outcome.Stopped (Change.OfCabinet p Deed.GoDown)
stops_when Power.Stale p = Decision.Yes Outcome.Stopped (Change.OfCabinet p Deed.GoDown)

-- S11.4, S11.7: it comes back older, S12.10: if there is something to go back to, S12.11: and it is no cabinet too many; S3.8: r alone limits
unfoldable pub rolls_of : Plan → ℕ → ℕ → Sight → ℕ → Decision
rolls_of plan p j k others =
    cond (has_version (stored_in plan p) k.present.stamp k.kept j)
    (cond (k.marked || ltb others plan.r) (Decision.Yes Outcome.RolledBack (Change.OfCabinet p (Deed.GoBack j))) (Decision.No Refusal.TooMany))
    (Decision.No Refusal.NoVersion)

-- S7.5, S9.2, S10.1, S11.4, S11.7: what a deed makes of the record at place p
unfoldable pub deed_of : Plan → ℕ → Deed → Cabinet → Cabinet
deed_of plan p (Deed.Weigh e) k = offered (stored_in plan p) e k
deed_of plan p Deed.GoDown k = stopped k
deed_of plan p Deed.ComeUp k = restarted (stored_in plan p) (is_forgetful plan.profile) k
deed_of plan p (Deed.GoBack j) k = rolled_back (stored_in plan p) j k
