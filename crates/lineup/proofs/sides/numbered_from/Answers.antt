use Rattle.std.proofs.Common.{rules, refl, ◌∙◌, [], arith}
use Rattle.lineup.proofs.Finding.{finding_more, finding_one, finding_all}
use Rattle.lineup.proofs.sides.numbered_from.Goals as goal

pub loop-i-init : goal.loop-i-init
loop-i-init g c os inside lie =
    rw (c.into_iter-i-iterator.ensures.into_iter_gives, c.each_from-i-items.ensures.0) record {
      earlier = [];
      rest = os;
      are = refl;
      lie = c.each_from-i-items.ensures.2 ∙ lie;
      reaches = omega (arith, c.each_from-i-items.ensures.1);
      not_earlier = refl;
    }

pub returns-then-order-number : goal.returns-then-order-number
returns-then-order-number g c os inside lie =
    let steps = c.in-Some.ensures.steps.1 in
    rw steps.1 (finding_one _ _ _ _ _ os _ _ (c.loop-i.invariant os inside lie) steps.5 c.in-Some-place.is c.if-order-number.true)

pub loop-i-preserved : goal.loop-i-preserved
loop-i-preserved g c os inside lie =
    let steps = c.in-Some.ensures.steps.1 in
    finding_more _ _ _ _ _ os _ _ (c.loop-i.invariant os inside lie) steps.5 steps.3 (λ x is. search rules)

pub loop-i-preserved-else-order-number : goal.loop-i-preserved-else-order-number
loop-i-preserved-else-order-number g c os inside lie =
    let steps = c.in-Some.ensures.steps.1 in
    finding_more _ _ _ _ _ os _ _ (c.loop-i.invariant os inside lie) steps.5 steps.3 (λ x is. search rules)

pub returns : goal.returns
returns g c os inside lie = finding_all _ _ _ os (rw c.in-None.ensures.steps.1.1 at (c.loop-i.invariant os inside lie))
