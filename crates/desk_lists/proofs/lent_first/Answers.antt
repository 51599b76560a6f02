-- `lent_first` meets its contract: the first steps are a list that fits. Assumes nothing.
use Rattle.std.proofs.Common.{ℕ, List, take, sym, ap, ◌∙◌}
use Rattle.std.proofs.lemmas.List.{take_min}
use Rattle.desk_lists.specs.Names.{Step}
use Rattle.desk_lists.specs.Lent.{lent_list_of}
use Rattle.desk_lists.proofs.LentLaws.{lent_first_taken}
use Rattle.desk_lists.proofs.lent_first.Goals as goal

pub returns : goal.returns
returns c =
    let a = c.args in
    c.list_lent.ensures
    ∙ ap (λ (ss : List Step). lent_list_of a.run.now a.table.now ss a.answers.now)
    (ap (λ (n : ℕ). take n a.steps.now) c.min.ensures ∙ take_min a.count a.steps.now)
    ∙ lent_first_taken a.run.now a.table.now a.steps.now a.count a.answers.now (sym c.fits.ensures ∙ c.if-not-fits.false)
