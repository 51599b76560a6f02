-- `number_at` meets its contract. The loop's invariant: v is the value of the first n digits, and the rest of the field goes on from it. Assumes nothing.
use lib.ListN.{length, drop}
use mathlib.Core.List.{[]}
use mathlib.Core.Path.{◌≡◌, refl, sym, ◌∙◌, ap}
use native.Mathlib.Omega.{arith}
use Rattle.std.proofs.lemmas.Bool.Decides.{nat_tests}
use Rattle.text.proofs.NumberLaws.{field_end, field_comma, field_next, value_low, value_high, value_next, grown, number_not, number_over, number_none, number_one, number_several}
use Rattle.text.specs.Pieces.{first}
use Rattle.text.proofs.field.number_at.Goals as goal
use Rattle.text.proofs.field.number_at.Goals.{else-loop-b-test, then-loop-b-test+in-44, then-several, else-several, then-n-gt0, else-n-gt0}

pub returns-in_default-clause-value : goal.returns-in_default-clause-value
returns-in_default-clause-value c =
    let loop = c.loop-b in
    let more = field_next c.args.s.now loop.n _ _ loop.invariant.count c.loop-b-test.true refl (omega arith) in
    number_not _ (sym loop.invariant.value ∙ value_low _ _ _ _ more (omega arith))

pub returns-in_default-2-clause-value : goal.returns-in_default-2-clause-value
returns-in_default-2-clause-value c =
    let loop = c.loop-b in
    number_over _ _ _ _ (field_next c.args.s.now loop.n _ _ loop.invariant.count c.loop-b-test.true refl (omega arith)) loop.invariant.left c.if-n-lt-MOST_DIGITS.false

pub returns-in_default-3-clause-value : goal.returns-in_default-3-clause-value
returns-in_default-3-clause-value c =
    let loop = c.loop-b in
    let more = field_next c.args.s.now loop.n _ _ loop.invariant.count c.loop-b-test.true refl (omega arith) in
    number_not _ (sym loop.invariant.value ∙ value_high _ _ _ _ more (omega arith) (omega arith))

pub loop-b-preserved : goal.loop-b-preserved
loop-b-preserved c =
    let loop = c.loop-b in
    let more = field_next c.args.s.now loop.n _ _ loop.invariant.count c.loop-b-test.true refl (omega arith) in
    record {
      count = omega arith;
      few = omega arith;
      small = grown _ _ _ loop.invariant.small (omega arith);
      value = value_next _ _ _ _ more (omega arith) (omega arith) ∙ loop.invariant.value;
      left = omega (arith, ap length more);
    }

pub returns-clause-value : goal.returns-clause-value
returns-clause-value c =
    let loop = c.loop-b.invariant in
    let no_more : first (drop c.loop-b.n c.args.s.now) ≡ [] =
    elim c.loop-b-test.branch [
      | else-loop-b-test w ↦ field_end c.args.s.now c.loop-b.n (omega arith)
      | then-loop-b-test+in-44 w ↦ field_comma _ _ _ _ loop.count w.loop-b-test.true refl w.in-44.is
    ] in
    c.then_some.ensures ∙
    elim c.if-n-gt0.branch [
      | then-n-gt0 w ↦
          elim c.if-several.branch [
            | then-several u ↦ number_several _ _ _ loop.few loop.value loop.left no_more _ _ (omega arith) u.padded-is w.then_some-is
            | else-several u ↦ number_one _ _ _ loop.few loop.value loop.left no_more _ _ (omega arith) (grind (arith, nat_tests)) w.then_some-is
          ]
      | else-n-gt0 w ↦ number_none _ _ _ loop.few loop.value loop.left no_more _ w.if-n-gt0.false w.then_some-is
    ]
