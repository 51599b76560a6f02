-- `write_row` meets its contract. Assumes nothing.
use mathlib.Core.Path.{sym, ◌∙◌}
use Rattle.text.proofs.PairLaws.{at_end}
use Rattle.text.proofs.ReadingLaws.{write_none, write_short, write_is}
use Rattle.text.proofs.row.write_row.Goals as goal

pub returns-in_err-a : goal.returns-in_err-a
returns-in_err-a c = c.from_residual.ensures ∙ write_none _ (sym c.in_err-a.ensures.value)

pub returns-in_err-get : goal.returns-in_err-get
returns-in_err-get c =
    c.from_residual-in_err-get.ensures
    ∙ write_short _ _ _ (sym c.in_ok-a.ensures.value) (at_end _ _ c.in_ok-a.ensures.within c.in_err-get.ensures.lookup.0)

pub returns-in_err-w : goal.returns-in_err-w
returns-in_err-w c =
    let rest = c.in_ok-get.ensures.lookup.0 in
    c.from_residual-in_err-w.ensures ∙ write_is _ _ _ (sym c.in_ok-a.ensures.value) rest.0 _ rest.2 _ c.in_err-w.ensures

pub returns : goal.returns
returns c =
    let rest = c.in_ok-get.ensures.lookup.0 in
    write_is _ _ _ (sym c.in_ok-a.ensures.value) rest.0 _ rest.2 _ c.in_ok-w.ensures
