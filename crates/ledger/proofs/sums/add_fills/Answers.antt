use Rattle.ledger.proofs.Adding.{fills_more, fills_end}
use Rattle.ledger.proofs.sums.add_fills.Goals as goal

pub loop-fill-preserved : goal.loop-fill-preserved
loop-fill-preserved c = (
  c.add_fill.array_long,
  fills_more c.args.fills.now c.loop-fill.fill-index c.loop-fill.rows _ c.loop-fill.invariant.1 _ _ c.loop-fill-test.true c.add_fill.ensures,
)

pub returns : goal.returns
returns c = record {
  added = fills_end c.args.fills.now c.loop-fill.fill-index c.loop-fill.rows _ c.loop-fill.invariant.1 c.loop-fill-test.false;
  long = c.loop-fill.invariant.0;
}
