-- `others_marked` meets its contract. Assumes nothing.
use Rattle.std.proofs.Common.{rules, tests, ◌≡◌, length, ◌∙◌}
use Rattle.std.proofs.lemmas.Iterator.{YieldsList-from_slice}
use Rattle.std.proofs.lemmas.Iterator.Consumers.{YieldsList-from_enumerate, YieldsList-from_filter, count_from_yields_List}
use Rattle.std.specs.List.{filter, enumerate_from}
use Rattle.run.proofs.GatherLaws.{other, others_are}
use Rattle.run.proofs.gather.others_marked.Goals as goal

counted : (c : goal.After-count) → c.count.result ≡ length (filter (other c.args.p) (enumerate_from 0 c.args.cabinets.now))
counted c =
    let l = c.args.cabinets.now in
    count_from_yields_List c.filter-others.result _ c.count.ensures.ran
    (YieldsList-from_filter _ (other c.args.p) (YieldsList-from_enumerate (YieldsList-from_slice l cc) cc) c.filter-others.ensures.closure (λ x b q k. search (rules, tests)))

pub returns : goal.returns
returns c = counted c ∙ others_are c.args.p 0 c.args.cabinets.now
