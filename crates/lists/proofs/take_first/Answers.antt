-- `take_first` meets its contract: the first steps are a list that fits. Assumes nothing.
use Rattle.std.proofs.Common.{ℕ, List, take, sym, ap, ◌∙◌}
use Rattle.std.proofs.lemmas.List.{take_min}
use Rattle.lists.specs.Names.{Step}
use Rattle.lists.specs.Whole.{list_of}
use Rattle.lists.proofs.ListLaws.{first_taken}
use Rattle.lists.proofs.take_first.Goals as goal

pub returns : goal.returns
returns c =
    let a = c.args in
    c.take_list.ensures
    ∙ ap (λ (ss : List Step). list_of a.run.now ss a.answers.now) (ap (λ (n : ℕ). take n a.steps.now) c.min.ensures ∙ take_min a.count a.steps.now)
    ∙ first_taken a.run.now a.steps.now a.count a.answers.now (sym c.fits.ensures ∙ c.if-not-fits.false)
