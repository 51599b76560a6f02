-- Every worked case comes out as docs/SCOPE.md says (S18.5): one equation, by computation. Assumes nothing.
use mathlib.Core.Path.{◌≡◌, refl}
use mathlib.Core.List.{map}
use Rattle.plan.specs.Rule.{plan_of, chosen, in_range}
use Rattle.cabinet.specs.Entries.{later_than}
use Rattle.cabinet.specs.Cabinets.{offered, taken}
use Rattle.worked.specs.Cases.{Row, rows}

pub table : map (λ (r : Row). r.says) rows ≡ map (λ (r : Row). r.wants) rows
unfolding plan_of chosen in_range later_than offered taken
table = refl
