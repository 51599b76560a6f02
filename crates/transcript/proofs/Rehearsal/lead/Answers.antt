-- A byte of a row that is too long is passed over. Assumes nothing.
use borrow.Author.Rules.{rules}
use native.Mathlib.Omega.{arith}
use Rattle.transcript.proofs.MachineLaws.{over_stays, over_silent}
use Rattle.transcript.proofs.Rehearsal.lead.Goals as goal

pub loop-i-preserved-then-b-ne10 : goal.loop-i-preserved-then-b-ne10
loop-i-preserved-then-b-ne10 c =
    let v = c.loop-i.invariant in
    record {
      state = over_stays _ _ _ _ _ _ _ _ (search rules) (search rules) (search rules) v.state;
      said = rw (over_silent _ _ _ _ _ _ _ _ (search rules) (search rules) (search rules) v.state) v.said;
      most = omega (arith, v.most);
      rows = omega (arith, v.rows);
    }
