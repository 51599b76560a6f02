-- `list_local` meets its contract: an array of nine lends what it has, where more is asked for. Assumes nothing.
use Prim.Native.Nat.{ℕ}
use mathlib.Core.Path.{◌≡◌, ap, ◌∙◌}
use borrow.Author.Rules.{rules}
use lib.ListN.{length}
use Rattle.limits.specs.Limits.{most_cabinets}
use Rattle.desk_lists.specs.Lent.{local_first_of}
use Rattle.desk_lists.proofs.LentLaws.{local_first_capped, local_first_says}
use Rattle.desk_lists.proofs.array.list_local.Goals as goal

pub returns : goal.returns
returns c =
    let a = c.args in
    let nine : length a.table.now ≡ most_cabinets = search rules in
    let z = c.lent_first in
    local_first_says a.run.now a.table.now c.min.result a.steps.now a.count a.answers.now (record { whole = z.result; run = z.new.run })
    z.new.table z.new.answers z.ensures
    ∙ ap (λ (m : ℕ). local_first_of a.run.now a.table.now m a.steps.now a.count a.answers.now) c.min.ensures
    ∙ local_first_capped a.run.now a.table.now a.len a.steps.now a.count a.answers.now nine
