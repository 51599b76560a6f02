-- Where the header row is refused, that is a second row behind the output's own header. Assumes nothing.
use Rattle.std.proofs.Common.{◌≡◌, false, refl, sym, ◌∙◌, arith}
use Rattle.print.proofs.PutLaws.{after}
use Rattle.print.specs.Rows.{head_text, no_header_text}
use Rattle.transcript.specs.Machine.{head_in, held_of, next_phase, next_row, next_run, say_line}
use Rattle.transcript.proofs.MachineLaws.{heads_fit}
use Rattle.transcript.proofs.Rehearsal.head_row.Goals as goal

pub returns : goal.returns
unfolding next_phase next_row next_run say_line
returns c =
    let no : head_in (held_of c.args.self.now.len c.args.self.now.line) ≡ false = sym c.is_header.ensures ∙ c.if-is_header.false in
    let w = after c.args.out.now head_text no_header_text c.put_head-end.ensures.wrote c.put_no_header.ensures.wrote (omega arith) in
    rw no (refl, refl, refl, w, omega (arith, w.1, heads_fit))
