-- `put_slot` meets its contract: a word, the slot, and the empty fields. Assumes nothing.
use mathlib.Core.List.{[], ◌∷◌}
use native.Mathlib.Omega.{arith}
use Rattle.print.proofs.PutLaws.{after, same}
use Rattle.print.proofs.RowLaws.{field_behind}
use Rattle.print.specs.Numbers.{decimal}
use Rattle.print.proofs.outcome.put_slot.Goals as goal

pub returns-clause-wrote : goal.returns-clause-wrote
returns-clause-wrote c =
    let a = c.args in
    same _ _ (field_behind a.word.now (decimal a.slot) ([] ∷ [] ∷ [] ∷ []))
    (after _ _ _ (after _ _ _ c.put_bytes-i.ensures c.put_short_field-j.ensures.wrote (omega arith)) c.put_bytes.ensures (omega arith))
