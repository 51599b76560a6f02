-- `is_ruled` meets its contract. Assumes nothing.
use Rattle.std.proofs.Common.{rules, arith, ◌≡◌, true}
use Rattle.std.specs.Result.{result_eq}
use Rattle.plan.specs.Names.{Ok, Plan, Planned}
use Rattle.plan.specs.contracts.PlanPartialEq.TheImpl.{eq-value as same-plan}
use Rattle.plan.specs.contracts.UnplannedPartialEq.TheImpl.{eq-value as same-refusal}
use Rattle.plan.proofs.RuledLaws.{ruled_if}
use Rattle.plan.proofs.is_ruled.Goals as goal

same_is : (x : Planned) (p : Plan) → result_eq same-plan.it same-refusal.it x (Ok p) ≡ true → x ≡ Ok p
same_is x p h = search rules

is_same : (x : Planned) (p : Plan) → x ≡ Ok p → result_eq same-plan.it same-refusal.it x (Ok p) ≡ true
is_same x p h = rw h (search rules)

pub returns : goal.returns
returns c = ruled_if c.args.p c.eq.result (λ h. grind (arith, same_is)) (λ h. grind (arith, is_same))
