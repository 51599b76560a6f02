-- `rollback` meets its contract. What comes back as it was built is shown by rewriting alone, so that any other record is refused beside the
-- one that is meant. Assumes nothing.
use mathlib.Core.Path.{sym, ◌∙◌}
use native.Mathlib.Omega.{arith}
use borrow.Author.Tests.{eq-eqb, ne_eqb}
use Rattle.cabinet.proofs.CabinetLaws.{has_older, older_below}
use Rattle.cabinet.specs.Cabinets.{rolled_back}
use Rattle.cabinet.proofs.record.Cabinet.rollback.Goals as goal

pub returns-then-j-eq-TO_FACTORY : goal.returns-then-j-eq-TO_FACTORY
unfolding rolled_back
returns-then-j-eq-TO_FACTORY c =
    let has = sym (rw c.present.ensures at c.has_version.ensures) ∙ c.if-has_version.true in
    rw (c.fresh.ensures, has, eq-eqb _ _ c.if-j-eq-TO_FACTORY.true)

pub overflow_sub-self : goal.overflow_sub-self
overflow_sub-self c =
    let a = c.args in
    let other = ne_eqb _ _ c.if-j-eq-TO_FACTORY.false in
    let has = sym c.has_version.ensures ∙ c.if-has_version.true in
    omega (arith, older_below a.stored a.self.now.kept a.j (sym (has_older a.stored c.present.result.stamp a.self.now.kept a.j other) ∙ has))
