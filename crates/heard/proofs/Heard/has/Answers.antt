-- `has` meets its contract: the bit is the definition's, and past the sixteen bits there is none. Assumes nothing.
use mathlib.Core.Path.{refl, sym, ◌∙◌}
use borrow.Author.Rules.{rules}
use borrow.Author.Tests.{le-ltb}
use Rattle.heard.specs.Heard.{voice_of, has_of}
use Rattle.heard.proofs.CodeLaws.{far_not_heard}
use Rattle.heard.proofs.Heard.has.Goals as goal

pub returns-then-cabinet-lt16 : goal.returns-then-cabinet-lt16
unfolding has_of voice_of
returns-then-cabinet-lt16 c = refl

pub returns-else-cabinet-lt16 : goal.returns-else-cabinet-lt16
returns-else-cabinet-lt16 c = le-ltb _ _ c.if-cabinet-lt16.false ∙ sym (far_not_heard _ _ (search rules) c.if-cabinet-lt16.false)
