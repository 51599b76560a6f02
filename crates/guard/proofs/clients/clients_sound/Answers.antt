-- `clients_sound` meets its contract. Assumes nothing.
use mathlib.Core.Path.{refl, ◌∙◌}
use borrow.Author.Rules.{rules}
use borrow.Author.Tests.{tests}
use Rattle.std.proofs.lemmas.Iterator.{YieldsList-from_slice}
use Rattle.std.proofs.lemmas.Iterator.Search.{all_from_yields_List}
use Rattle.guard.specs.Damage.{client_sound}
use Rattle.guard.proofs.AllLaws.{all_alike}
use Rattle.guard.proofs.clients.clients_sound.Goals as goal

pub returns : goal.returns
unfolding client_sound
returns c =
    all_from_yields_List (client_sound c.args.plan.now c.args.steps 0) _ _ _ c.all.ensures.ran (YieldsList-from_slice c.args.clients.now cc) (λ x b q k. search (rules, tests))
    ∙ all_alike (client_sound c.args.plan.now c.args.steps) (λ i j x. refl) 0 0 c.args.clients.now
