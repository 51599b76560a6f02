-- The bytes before the first whole step row, the whole rows, and the bytes behind them. Assumes nothing.
use Rattle.std.proofs.Common.{arith, sym, ℕ, ◌-◌, List, length, take, drop}
use Rattle.text.proofs.BreakLaws.{part_all, rest_most}
use Rattle.transcript.specs.Machine.{mach_of}
use Rattle.transcript.proofs.TookLaws.{fed_on}
use Rattle.transcript.proofs.Rehearsal.feed.Goals as goal

pub returns : goal.returns
returns c =
    let s = c.args.s.now in
    let most = rest_most s c.lead-used.result.0 in
    let v = c.lead-used.ensures in
    let t = c.steps-went.ensures in
    let rest : List ℕ = take (length s - c.lead-used.result.0) (drop c.lead-used.result.0 s) in
    let q =
    fed_on (mach_of c.args.self.now) s c.lead-used.result.0 c.lead-used.new.self c.steps-went.new.run (mach_of c.hold.new.self) c.steps-went.result
    c.args.out.now c.lead-used.new.out c.steps-went.new.out c.args.at c.lead-used.result.1 rest _
    (part_all s c.lead-used.result.0) (part_all rest c.steps-went.result.used) v.state v.said (sym c.if-not-at_step.ensures) t c.hold.ensures.state (omega arith) in
    record { state = q.0; out = q.1.0; end = q.1.1; most = (omega (arith, most, v.most.0, v.used.0, t.room), omega (arith, most, v.most.1, v.used.0, t.rows, c.hold.ensures.same)) }
