-- `int_at` meets its contract: by arithmetic alone, so that bytes in another order are refused with values at which they differ. Assumes nothing.
use native.Mathlib.Omega.{arith}
use Rattle.firmware.proofs.xdr.int_at.Goals as goal

pub returns : goal.returns
returns c = omega (arith, c.from_be_bytes.ensures)
