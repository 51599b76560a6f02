-- `put_bytes` meets its contract: a part of the buffer becomes `s`. Assumes nothing.
use Prim.Native.Nat.{◌+◌}
use lib.ListN.{length, take, drop}
use mathlib.Core.List.{◌++◌, append_assoc}
use mathlib.Core.Path.{refl, sym, ◌∙◌}
use native.Mathlib.Omega.{arith}
use borrow.Rule.Slice.PartMut.{Post-is}
use Rattle.print.specs.Put.{put}
use Rattle.print.proofs.put.put_bytes.Goals as goal

pub returns : goal.returns
unfolding put
returns c =
    let a = c.args in
    let end = a.at + length a.s.now in
    let behind = Post-is a.at end a.buf.now (omega arith) in (
      (λ i. take a.at a.buf.now ++ (c.copy_from_slice.ensures.after i ++ behind i))
          ∙ sym (append_assoc (take a.at a.buf.now) a.s.now (drop end a.buf.now)),
      refl,
    )
