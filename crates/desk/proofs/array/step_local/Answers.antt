-- `step_local` meets its contract: an array of nine lends what it has, where more is asked for. Assumes nothing.
use Prim.Native.Nat.{ℕ}
use mathlib.Core.Path.{◌≡◌, ap, ◌∙◌}
use borrow.Author.Rules.{rules}
use lib.ListN.{length}
use Rattle.limits.specs.Limits.{most_cabinets}
use Rattle.desk.specs.Desk.{local_of}
use Rattle.desk.proofs.LendLaws.{local_capped, local_says}
use Rattle.desk.proofs.array.step_local.Goals as goal

pub returns : goal.returns
returns c =
    let run = c.args.run.now in
    let table = c.args.table.now in
    let s = c.args.s in
    let nine : length table ≡ most_cabinets = search rules in
    let z = c.step_lent in
    local_says run table c.min.result s (record { answer = z.result; run = z.new.run }) z.new.table z.ensures.0 z.ensures.1
    ∙ ap (λ (m : ℕ). local_of run table m s) c.min.ensures
    ∙ local_capped c.args.len table nine run s
