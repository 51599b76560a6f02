-- `within` meets its contract: shifting n places out leaves what the definition has, and sixteen places leave nothing. Assumes nothing.
use mathlib.Core.Path.{refl, sym, ◌∙◌}
use borrow.Author.Rules.{rules}
use borrow.Author.Tests.{le-leb}
use Rattle.heard.specs.Heard.{within_of}
use Rattle.heard.proofs.CodeLaws.{far_within}
use Rattle.heard.proofs.Heard.within.Goals as goal

pub returns-then-n-ge16 : goal.returns-then-n-ge16
returns-then-n-ge16 c = le-leb _ _ c.if-n-ge16.true ∙ sym (far_within _ _ (search rules) c.if-n-ge16.true)

pub returns-else-n-ge16 : goal.returns-else-n-ge16
unfolding within_of
returns-else-n-ge16 c = refl
