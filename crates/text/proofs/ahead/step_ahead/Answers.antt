-- `step_ahead` meets its contract. Assumes nothing.
use mathlib.Core.Path.{refl}
use Rattle.text.proofs.BytesLaws.{begins_by}
use Rattle.text.proofs.WordLaws.{by_first}
use Rattle.text.specs.Pieces.{lead_by}
use Rattle.text.specs.Words.{kinds}
use Rattle.text.proofs.ahead.step_ahead.Goals as goal

pub one_ahead-requires : goal.one_ahead-requires
unfolding lead_by
one_ahead-requires c = by_first kinds _ 100 _ _ _ refl (begins_by _ _ _ c.if-starts_with.ensures.value)

pub two_ahead-requires : goal.two_ahead-requires
unfolding lead_by
two_ahead-requires c = by_first kinds _ 115 _ _ _ refl (begins_by _ _ _ c.if-starts_with-2.ensures.value)
