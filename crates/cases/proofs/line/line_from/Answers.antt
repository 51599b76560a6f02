-- `line_from` meets its contract: where the row ends before an LF. Assumes nothing.
use Rattle.cases.proofs.LineLaws.{row_lies}
use Rattle.cases.proofs.line.line_from.Goals as goal

pub returns-in-Some-clause-row : goal.returns-in-Some-clause-row
returns-in-Some-clause-row c = row_lies c.args.s.now c.args.from c.in-Some.end _ c.trim.ensures
