-- `head_l` meets its contract. Assumes nothing.
use Rattle.std.proofs.Common.{rules}
use Rattle.text.specs.Pieces.{head_in, lead_by}
use Rattle.text.proofs.WordLaws.{head_or}
use Rattle.text.proofs.word.head_l.Goals as goal

pub returns : goal.returns
unfolding head_in lead_by
returns c = search (rules, head_or)
