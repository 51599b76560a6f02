-- `fill` meets its contract: std's `fill` of the first places, with those behind. Assumes nothing.
use Rattle.lists.proofs.ListLaws.{front_filled}
use Rattle.lists.proofs.fill.Goals as goal

pub returns : goal.returns
returns c =
    front_filled c.args.count c.args.number c.args.answers.now c.fill.new.self c.requires (c.fill.ensures.after (λ y e. e))
