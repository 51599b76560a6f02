-- `head_r` meets its contract. Assumes nothing.
use Rattle.std.proofs.Common.{rules}
use Rattle.text.specs.Pieces.{begins, head_in, lead_by}
use Rattle.text.proofs.WordLaws.{head_or, head_or_third}
use Rattle.text.proofs.word.head_r.Goals as goal

pub returns : goal.returns
unfolding begins head_in lead_by
returns c = search (rules, head_or, head_or_third)
