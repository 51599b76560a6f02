-- `heard_sound` meets its contract, by rewriting alone, so that another comparison is refused beside the one that is meant. Assumes nothing.
use mathlib.Core.Path.{sym, ◌∙◌}
use Rattle.guard.specs.Damage.{heard_sound}
use Rattle.guard.proofs.clients.heard_sound.Goals as goal

pub returns-then-within : goal.returns-then-within
unfolding heard_sound
returns-then-within c = simp (sym c.within.ensures ∙ c.if-within.true, c.count.ensures)
