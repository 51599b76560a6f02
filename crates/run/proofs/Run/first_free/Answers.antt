-- `first_free` meets its contract: no slot that was passed is free. Assumes nothing.
use Rattle.std.proofs.Common.{arith, refl, sym, ◌∙◌}
use Rattle.run.proofs.GatherLaws.{first_end, first_here, first_next}
use Rattle.run.proofs.Run.first_free.Goals as goal

pub loop-j-init : goal.loop-j-init
loop-j-init c = (refl, refl)

pub loop-j-preserved : goal.loop-j-preserved
loop-j-preserved c =
    (c.loop-j.invariant.0, c.loop-j.invariant.1 ∙ first_next c.args.self.now.slots c.loop-j.j c.loop-j.j (sym c.is_empty.ensures ∙ c.if-is_empty.false))

pub returns-after-loop-j-clause-free : goal.returns-after-loop-j-clause-free
returns-after-loop-j-clause-free c = rw c.loop-j.invariant.0 tt

pub returns-after-loop-j-clause-full : goal.returns-after-loop-j-clause-full
returns-after-loop-j-clause-full c =
    let end = first_end c.args.self.now.slots c.loop-j.j (omega arith) in
    rw c.loop-j.invariant.0 (omega (arith, end, c.loop-j.invariant.1))

pub returns-then-is_empty-clause-free : goal.returns-then-is_empty-clause-free
returns-then-is_empty-clause-free c =
    (c.loop-j.invariant.1 ∙ first_here c.args.self.now.slots c.loop-j.j c.loop-j.j (sym c.is_empty.ensures ∙ c.if-is_empty.true), omega arith)
