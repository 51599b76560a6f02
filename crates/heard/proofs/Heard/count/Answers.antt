-- `count` meets its contract: each place holds 1 or 0, so that their sum is the number of the cabinets heard. Assumes nothing.
use Prim.Native.Nat.{◌<◌}
use mathlib.Core.Path.{◌≡◌, ◌∙◌}
use borrow.Author.Rules.{rules}
use Rattle.std.specs.Prelude.{sum}
use Rattle.heard.proofs.TableLaws.{sum_is, sum_fits}
use Rattle.heard.proofs.Heard.count.Goals as goal

pub sum-requires-clause-fits : goal.sum-requires-clause-fits
sum-requires-clause-fits c =
    let fits : sum c.places.result < 256 = sum_fits c.args.self c.places.result c.places.ensures in
    search rules

pub returns : goal.returns
returns c =
    let total : c.sum.result ≡ sum c.places.result = search rules in
    total ∙ sum_is c.args.self c.places.result c.places.ensures
