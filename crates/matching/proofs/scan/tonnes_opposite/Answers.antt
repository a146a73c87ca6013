use Rattle.std.proofs.Common.{arith}
use Rattle.matching.proofs.scan.tonnes_opposite.Goals as goal

pub returns : goal.returns
returns g c = omega (arith, rw c.in-None.ensures.steps.1.1 at c.loop-place.invariant.0, c.loop-place.invariant.1)
