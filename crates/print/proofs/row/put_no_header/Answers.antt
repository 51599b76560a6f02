-- `put_no_header` meets its contract: the row is a byte string. Assumes nothing.
use Rattle.print.proofs.PutLaws.{same}
use Rattle.print.proofs.RowLaws.{no_header_said}
use Rattle.print.proofs.row.put_no_header.Goals as goal

pub returns-clause-wrote : goal.returns-clause-wrote
returns-clause-wrote c = same _ _ no_header_said c.put_bytes.ensures
