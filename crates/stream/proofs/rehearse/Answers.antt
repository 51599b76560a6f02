-- `stream::rehearse` meets its contract. The buffers' lengths are named by a law, since to compute them is too long. Assumes nothing.
use mathlib.Core.Path.{sym}
use lib.ListN.{length-replicate}
use native.Mathlib.Omega.{arith}
use Prim.Native.Nat.{ℕ}
use Rattle.stream.specs.Buffers.{out_room}
use Rattle.stream.proofs.rehearse.Goals as goal

pub slice_bounds-all_bytes-end-2 : goal.slice_bounds-all_bytes-end-2
slice_bounds-all_bytes-end-2 g c = sym (length-replicate {0} {A = ℕ} out_room 0)

pub all_bytes-requires : goal.all_bytes-requires
all_bytes-requires g c = record { part_fits = omega arith; out_fits = length-replicate {0} {A = ℕ} out_room 0 }
