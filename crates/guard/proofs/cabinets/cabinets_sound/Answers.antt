-- `cabinets_sound` meets its contract. Assumes nothing.
use Prim.Native.Nat.{ℕ}
use mathlib.Core.Path.{◌∙◌}
use borrow.Author.Rules.{rules}
use borrow.Author.Tests.{tests}
use Rattle.std.proofs.lemmas.Iterator.{YieldsList-from_slice}
use Rattle.std.proofs.lemmas.Iterator.Consumers.{YieldsList-from_enumerate}
use Rattle.std.proofs.lemmas.Iterator.Search.{all_from_yields_List}
use Rattle.guard.specs.Names.{Cabinet}
use Rattle.guard.specs.Damage.{cabinet_sound}
use Rattle.guard.proofs.AllLaws.{all_listed}
use Rattle.guard.proofs.cabinets.cabinets_sound.Goals as goal

pub returns : goal.returns
returns c =
    all_from_yields_List (λ (q : ℕ × Cabinet). cabinet_sound c.args.plan.now c.args.steps q.0 q.1) _ _ _ c.all.ensures.ran (YieldsList-from_enumerate (YieldsList-from_slice c.args.cabinets.now cc) cc) (λ x b q k. search (rules, tests))
    ∙ all_listed (cabinet_sound c.args.plan.now c.args.steps) 0 c.args.cabinets.now
