-- `take_list` meets its contract: each way to its answer. Assumes nothing.
use Rattle.std.proofs.Common.{ℕ, List, true, ◌≡◌, length, replicate, sym, ap, ◌∙◌}
use Rattle.lists.specs.Names.{Ok}
use Rattle.lists.specs.Whole.{fits, in_front}
use Rattle.lists.proofs.ListLaws.{list_taken, fits_says, taken_damaged, going_none, going_next, going_all}
use Rattle.lists.proofs.take_list.Goals as goal

pub fill-requires : goal.fill-requires
fill-requires c = (fits_says _ _ (sym c.fits.ensures ∙ c.if-not-fits.false)).1

pub returns-then-not-undamaged : goal.returns-then-not-undamaged
returns-then-not-undamaged c =
    let a = c.args in
    let room : fits (length a.steps.now) (length a.answers.now) ≡ true = sym c.fits.ensures ∙ c.if-not-fits.false in
    let each : c.from.result ≡ 1 = c.from.ensures in
    let filled = c.fill.ensures ∙ ap (λ (n : ℕ). in_front (replicate (length a.steps.now) n) a.answers.now) each in
    ap (λ (l : List ℕ). (record { whole = Ok tt; run = a.run.now }, l)) filled
    ∙ taken_damaged a.run.now (sym c.undamaged.ensures ∙ c.if-not-undamaged.true) a.steps.now a.answers.now
    ∙ list_taken a.run.now a.steps.now a.answers.now room

pub loop-i-init : goal.loop-i-init
loop-i-init c = going_none _ _ _ (sym c.undamaged.ensures ∙ c.if-not-undamaged.false)

pub loop-i-preserved : goal.loop-i-preserved
loop-i-preserved c =
    let a = c.args in
    let places = (fits_says _ _ (sym c.fits.ensures ∙ c.if-not-fits.false)).1 in
    let l = c.loop-i in
    going_next a.run.now a.steps.now a.answers.now places l.i l.run l.answers l.invariant c.loop-i-test.true
    _ _ c.go.ensures _ c.answer_number.ensures

pub returns : goal.returns
returns c =
    let a = c.args in
    going_all a.run.now a.steps.now a.answers.now c.loop-i.i c.loop-i.run c.loop-i.answers c.loop-i.invariant c.loop-i-test.false
    ∙ list_taken a.run.now a.steps.now a.answers.now (sym c.fits.ensures ∙ c.if-not-fits.false)
