-- `put_head` meets its contract: the header is a byte string. Assumes nothing.
use Rattle.print.specs.Rows.{head_text}
use Rattle.print.proofs.row.put_head.Goals as goal

pub returns-clause-wrote : goal.returns-clause-wrote
unfolding head_text
returns-clause-wrote c = c.put_bytes.ensures
