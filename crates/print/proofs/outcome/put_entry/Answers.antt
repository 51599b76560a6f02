-- `put_entry` meets its contract: slot, counter and writer, and then the reading. Assumes nothing.
use mathlib.Core.List.{[], ◌∷◌}
use native.Mathlib.Omega.{arith}
use Rattle.print.proofs.PutLaws.{after, same}
use Rattle.print.proofs.RowLaws.{three_fields}
use Rattle.print.specs.Numbers.{decimal}
use Rattle.print.specs.Words.{reading_text}
use Rattle.print.proofs.outcome.put_entry.Goals as goal

pub returns-clause-wrote : goal.returns-clause-wrote
returns-clause-wrote c =
    let a = c.args in
    let stamp = a.entry.stamp in
    let slot = c.put_short_field-i.ensures.wrote in
    let counter = after _ _ _ slot c.put_long_field-j.ensures.wrote (omega arith) in
    let writer = after _ _ _ counter c.put_short_field-k.ensures.wrote (omega arith) in
    same _ _ (three_fields (decimal a.slot) (decimal stamp.counter) (decimal stamp.writer) (reading_text a.entry.reading ∷ []))
    (after _ _ _ writer c.put_reading.ensures.wrote (omega arith))
