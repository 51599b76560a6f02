-- `two_ahead` meets its contract. Assumes nothing.
use mathlib.Core.Path.{sym}
use Rattle.text.proofs.AheadLaws.{word_fits, two_leads}
use Rattle.text.proofs.BytesLaws.{begins_by}
use Rattle.text.proofs.ahead.two_ahead.Goals as goal

pub slice_bounds-rest-count : goal.slice_bounds-rest-count
slice_bounds-rest-count c = word_fits _ _ _ c.requires

pub slice_bounds-rest-start : goal.slice_bounds-rest-start
slice_bounds-rest-start c = word_fits _ _ _ c.requires

pub returns : goal.returns
returns c =
    rw c.two_step.ensures (two_leads _ _ _ _ _ _ c.requires (sym c.in_ok-a.ensures.value) (begins_by _ _ _ c.if-not-starts_with.ensures.value))
