-- `parse` meets its contract. Assumes nothing.
use mathlib.Core.Path.{sym, ◌∙◌}
use Rattle.text.specs.Words.{kinds}
use Rattle.text.proofs.WordLaws.{head_fits, row_long, row_none, row_is}
use Rattle.text.proofs.row.parse.Goals as goal

pub returns-then-line-gt-MOST_BYTES : goal.returns-then-line-gt-MOST_BYTES
returns-then-line-gt-MOST_BYTES c = row_long _ c.if-line-gt-MOST_BYTES.true

pub returns-in_err-head : goal.returns-in_err-head
returns-in_err-head c = c.from_residual.ensures ∙ row_none _ c.in_err-head.ensures c.if-line-gt-MOST_BYTES.false

pub slice_bounds-row_as-count : goal.slice_bounds-row_as-count
slice_bounds-row_as-count c = head_fits kinds _ _ (sym c.in_ok-head.ensures)

pub slice_bounds-row_as-start : goal.slice_bounds-row_as-start
slice_bounds-row_as-start c = head_fits kinds _ _ (sym c.in_ok-head.ensures)

pub returns : goal.returns
returns c = c.row_as.ensures ∙ row_is _ _ c.in_ok-head.ensures c.if-line-gt-MOST_BYTES.false
