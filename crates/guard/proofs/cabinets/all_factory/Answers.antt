-- `all_factory` meets its contract. Assumes nothing.
use mathlib.Core.Path.{refl, ◌∙◌}
use borrow.Author.Rules.{rules}
use borrow.Author.Tests.{tests}
use Rattle.std.proofs.lemmas.Iterator.{YieldsList-from_slice}
use Rattle.std.proofs.lemmas.Iterator.Search.{all_from_yields_List}
use Rattle.guard.specs.Damage.{factory_at}
use Rattle.guard.proofs.AllLaws.{all_alike}
use Rattle.guard.proofs.cabinets.all_factory.Goals as goal

pub returns : goal.returns
returns c =
    all_from_yields_List (factory_at 0) _ _ _ c.all.ensures.ran (YieldsList-from_slice c.args.versions.now cc) (λ x b q k. search (rules, tests))
    ∙ all_alike factory_at (λ i j x. refl) 0 0 c.args.versions.now
