-- What one turn reads is fed, and what is said of it is written. Assumes nothing.
use Rattle.stream.proofs.Moving.{passed_end, passed_part}
use Rattle.stream.proofs.one_turn.Goals as goal

pub returns-then-n-eq0-clause-turned : goal.returns-then-n-eq0-clause-turned
returns-then-n-eq0-clause-turned g c = passed_end _ _ _ _ c.got-n.result c.got-n.new.part c.if-n-eq0.true c.got-n.ensures.bytes

pub returns-clause-turned : goal.returns-clause-turned
returns-clause-turned g c =
    passed_part _ _ _ _ _ _ _ _ _ _ c.got-n.ensures.bytes c.feed-at.ensures.state c.feed-at.ensures.out c.feed-at.ensures.end c.in_ok-write_all.ensures.bytes
