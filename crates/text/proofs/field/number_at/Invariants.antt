use Prim.Native.Nat.{◌+◌, ◌^◌, ◌<◌, ◌≤◌}
use lib.ListN.{length, drop}
use mathlib.Core.Path.{◌≡◌}
use Rattle.text.specs.Fields.{value_from, most_digits}
use Rattle.text.specs.Pieces.{first}
use Rattle.text.proofs.field.number_at.Given as goal

abbrev pub invariant-loop-b : goal.invariant-loop-b
invariant-loop-b l =
    record {
      count : l.n ≡ l.b-index;
      few : l.n ≤ most_digits;
      small : l.v < 10 ^ l.n;
      value : value_from l.v (first (drop l.n l.s)) ≡ value_from 0 (first l.s);
      left : l.n + length (first (drop l.n l.s)) ≡ length (first l.s);
    }
