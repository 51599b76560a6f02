-- `reading_of` meets its contract. Assumes nothing.
use mathlib.Core.Path.{◌∙◌}
use Rattle.text.proofs.BytesLaws.{begins_by, same_by}
use Rattle.text.proofs.ReadingLaws.{reading_open, reading_closed, reading_last}
use Rattle.text.proofs.reading.reading_of.Goals as goal

pub returns-then-starts_with : goal.returns-then-starts_with
returns-then-starts_with c = c.minutes.ensures ∙ reading_open _ (begins_by _ _ _ c.if-starts_with.ensures.value)

pub returns-then-eq : goal.returns-then-eq
returns-then-eq c = reading_closed _ (same_by _ _ _ c.if-eq.ensures)

pub returns : goal.returns
returns c =
    c.then_some.ensures
    ∙ reading_last _ (begins_by _ _ _ c.if-starts_with.ensures.value) (same_by _ _ _ c.if-eq.ensures) _ (same_by _ _ _ c.eq-2.ensures)
