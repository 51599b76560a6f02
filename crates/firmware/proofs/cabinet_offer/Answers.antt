-- `cabinet_offer` meets its contract. Assumes nothing.
use mathlib.Core.Path.{◌∙◌}
use native.Mathlib.Omega.{arith}
use borrow.Author.Rules.{rules}
use Rattle.std.proofs.lemmas.List.{set-get_or}
use Rattle.firmware.proofs.OfferLaws.{answered, taken, not_taken, taken_length}
use Rattle.firmware.proofs.cabinet_offer.Goals.{then-eq, else-eq}
use Rattle.firmware.proofs.cabinet_offer.Goals as goal

pub copy_from_slice-requires : goal.copy_from_slice-requires
copy_from_slice-requires c = taken_length _ _ _ _ _ c.decode.ensures c.decode-2.ensures c.judge-verdict.ensures (search rules)

pub returns-clause-value : goal.returns-clause-value
returns-clause-value c = c.into.ensures ∙ answered _ _ _ _ _ c.decode.ensures c.decode-2.ensures c.judge-verdict.ensures

pub returns-clause-held_after : goal.returns-clause-held_after
returns-clause-held_after c =
    elim c.if-eq.branch [
      | then-eq w ↦ grind (arith, set-get_or, taken _ _ _ _ _ c.decode.ensures c.decode-2.ensures c.judge-verdict.ensures (search rules))
      | else-eq w ↦ w.held-is ∙ not_taken _ _ _ _ _ c.decode.ensures c.decode-2.ensures c.judge-verdict.ensures (search rules)
    ]
