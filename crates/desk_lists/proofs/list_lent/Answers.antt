-- `list_lent` meets its contract: no room, a table of another length, and the list of the run that has the lent records. Assumes nothing.
use Rattle.std.proofs.Common.{ℕ, List, true, ◌≡◌, length, replicate, ap, sym, ◌∙◌}
use Rattle.desk_lists.specs.Names.{Cabinet, Listed, Ok, Run}
use Rattle.lists.specs.Whole.{fits, in_front, list_of}
use Rattle.lists.proofs.ListLaws.{fits_says}
use Rattle.desk.specs.Desk.{with_cabinets, nine_of}
use borrow.Author.Tests.{ne_eqb}
use Rattle.desk_lists.proofs.LentLaws.{list_wrong, list_right}
use Rattle.desk_lists.proofs.list_lent.Goals as goal

pub fill-requires : goal.fill-requires
fill-requires c = (fits_says _ _ (sym c.fits.ensures ∙ c.if-not-fits.false)).1

pub returns-then-table-run : goal.returns-then-table-run
returns-then-table-run c =
    let a = c.args in
    let room : fits (length a.steps.now) (length a.answers.now) ≡ true = sym c.fits.ensures ∙ c.if-not-fits.false in
    let each : c.from.result ≡ 14 = c.from.ensures in
    let filled = c.fill.ensures ∙ ap (λ (n : ℕ). in_front (replicate (length a.steps.now) n) a.answers.now) each in
    ap (λ (l : List ℕ). (record { whole = Ok tt; run = a.run.now }, a.table.now, l)) filled
    ∙ rw room at (list_wrong a.run.now a.table.now a.steps.now a.answers.now (ne_eqb _ _ c.if-table-run.true))

pub returns : goal.returns
returns c =
    let a = c.args in
    let z : Listed × List ℕ = (record { whole = c.take_list-whole.result; run = c.take_list-whole.new.run }, c.take_list-whole.new.answers) in
    let took : z ≡ list_of (with_cabinets a.run.now (nine_of a.table.now)) a.steps.now a.answers.now =
    c.take_list-whole.ensures ∙ ap (λ (r : Run). list_of r a.steps.now a.answers.now) c.lend-own.ensures.lent in
    let own : c.give_back.new.run ≡ with_cabinets z.0.run a.run.now.cabinets =
    c.give_back.ensures.own ∙ ap (with_cabinets z.0.run) c.lend-own.ensures.own in
    ap (λ (r : Run). (record { whole = z.0.whole; run = r }, c.give_back.new.table, z.1)) own
    ∙ ap (λ (l : List Cabinet). (record { whole = z.0.whole; run = with_cabinets z.0.run a.run.now.cabinets }, l, z.1)) c.give_back.ensures.lent
    ∙ list_right a.run.now a.table.now a.steps.now a.answers.now z c.if-table-run.false took
