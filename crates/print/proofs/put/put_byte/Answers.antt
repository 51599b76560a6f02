-- `put_byte` meets its contract: a store is one byte put. Assumes nothing.
use mathlib.Core.Path.{refl}
use Rattle.print.proofs.PutLaws.{put_one}
use Rattle.print.proofs.put.put_byte.Goals as goal

pub returns : goal.returns
returns c = (put_one _ _ _ c.requires, refl)
