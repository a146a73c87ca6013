use Rattle.std.proofs.Common.{◌≡◌, refl, arith}
use Rattle.ledger.proofs.Summing.{summed_none, summed_added}
use Rattle.ledger.proofs.totals.Ledger.sum.Goals as goal

pub loop-row-init : goal.loop-row-init
loop-row-init c = summed_none c.args.self.now.rows c.args.self.now.within

pub loop-row-preserved : goal.loop-row-preserved
loop-row-preserved c =
    rw c.add-sum.ensures (summed_added c.args.self.now.rows c.args.self.now.within c.loop-row.row-index c.loop-row.sum _ c.loop-row.invariant refl c.loop-row-test.true)

pub returns : goal.returns
returns c =
    let all : c.loop-row.row-index ≡ 64 = omega arith in
    rw all at c.loop-row.invariant.sums
