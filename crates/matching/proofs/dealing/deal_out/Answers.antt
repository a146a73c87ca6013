use Rattle.std.proofs.Common.{refl, arith}
use Rattle.matching.proofs.Running.{run_start, run_more}
use Rattle.matching.proofs.dealing.deal_out.Goals as goal

pub loop-place-init : goal.loop-place-init
loop-place-init g c = (run_start c.args.fills.now, refl)

pub loop-place-preserved : goal.loop-place-preserved
loop-place-preserved g c =
    let at = c.loop-place.invariant.1 in (
      rw (← at)
          (run_more c.args.fills.now c.loop-place.count c.loop-place.left (g.L.Places.contents c.loop-place.list) (g.L.Places.contents c.deal_one.new.list)
          c.loop-place.fills c.in-Some.fill (omega (arith, at, c.loop-place-test.true)) c.loop-place.invariant.0 c.in-Some.ensures),
      omega (arith, at),
    )
