-- `is_header` meets its contract. Assumes nothing.
use mathlib.Core.Path.{sym}
use Rattle.text.specs.Rows.{is_header}
use Rattle.text.proofs.BytesLaws.{same_by}
use Rattle.text.proofs.row.is_header.Goals as goal

pub returns : goal.returns
unfolding is_header
returns c = sym (same_by _ _ _ c.eq.ensures)
