-- `put_outcome` meets its contract: each outcome has its own word, and what it shows. Assumes nothing.
use native.Mathlib.Omega.{arith}
use Rattle.print.proofs.PutLaws.{after}
use Rattle.print.proofs.outcome.put_outcome.Goals as goal

pub returns-in-Ended-clause-wrote : goal.returns-in-Ended-clause-wrote
returns-in-Ended-clause-wrote c = rw c.in-Ended.is (after _ _ _ c.put_ending-i.ensures.wrote c.put_entry.ensures.wrote (omega arith))

pub returns-in-RolledBack-clause-wrote : goal.returns-in-RolledBack-clause-wrote
returns-in-RolledBack-clause-wrote c = rw c.in-RolledBack.is c.put_bytes-in-RolledBack.ensures
