-- The counter of the best entry heard is bounded, as `first_write` asks. Assumes nothing.
use Rattle.std.proofs.Common.{arith}
use Rattle.client.specs.Hear.{told_of, best_of}
use Rattle.client.proofs.hear.hear.Goals as goal

pub first_write-requires : goal.first_write-requires
unfolding told_of best_of
first_write-requires c = grind arith
