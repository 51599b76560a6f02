-- `with` meets its contract: below nine the shifted 1 loses no bit, and from nine on the set is left as it is. Assumes nothing.
use mathlib.Core.Path.{sym}
use Rattle.heard.proofs.CodeLaws.{bit_set}
use Rattle.heard.proofs.HeardLaws.{with_past}
use Rattle.heard.proofs.Heard.with.Goals as goal

pub returns-then-cabinet-lt-MOST_CABINETS : goal.returns-then-cabinet-lt-MOST_CABINETS
returns-then-cabinet-lt-MOST_CABINETS c = bit_set _ _ c.if-cabinet-lt-MOST_CABINETS.true

pub returns-else-cabinet-lt-MOST_CABINETS : goal.returns-else-cabinet-lt-MOST_CABINETS
returns-else-cabinet-lt-MOST_CABINETS c = sym (with_past _ _ c.if-cabinet-lt-MOST_CABINETS.false)
