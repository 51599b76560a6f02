-- The numbers that come back are those of the table. Assumes nothing.
use Rattle.std.proofs.Common.{◌≤◌, rules}
use Rattle.types.specs.Names.{Refusal}
use Rattle.types.specs.Answers.{refusal_number}

pub refusal_most : (why : Refusal) → refusal_number why ≤ 11
refusal_most why = search rules
