use Rattle.std.proofs.Common.{◌≡◌, ◌∙◌, arith}
use Rattle.std.proofs.lemmas.List.{length-take-le, set-get_or}
use Rattle.ranked.proofs.Called.{calling_more, calling_used, calling_on, crossed_so, none_left}
use Rattle.ranked.proofs.cross.crossed.Goals as goal

pub loop-count-preserved : goal.loop-count-preserved
loop-count-preserved g c = (
  c.in-Some.ensures.few.0 ∙ c.loop-count.invariant.0,
  λ rule b l sound bought sold.
      let calling = c.loop-count.invariant.1 rule b l sound bought sold in
      calling_more _ b _ _ _ _ _ _ _ calling _ _ _ (omega arith) c.loop-count-test.true (c.in-Some.ensures.taken _ calling.lies),
)

pub returns-then-left-eq0 : goal.returns-then-left-eq0
returns-then-left-eq0 g c = record {
  capacity = c.loop-count.invariant.0;
  dealt = λ rule b l sound bought sold few.
      let calling = c.loop-count.invariant.1 rule b l sound bought sold in
      let used = calling_used _ b _ _ _ _ _ _ _ calling c.if-left-eq0.true in
      let same : c.counted.result ≡ c.loop-count.count = omega (arith, c.counted.ensures, l.small, few, used.1) in
      rw (set-get_or, same) (crossed_so few c.requires used);
}

pub returns-in_default-clause-dealt : goal.returns-in_default-clause-dealt
returns-in_default-clause-dealt g c rule b l sound bought sold few =
    let calling = c.loop-count.invariant.1 rule b l sound bought sold in
    absurd (omega (arith, (calling_on _ b _ _ _ _ _ _ _ calling (omega (arith, c.if-left-eq0.false))).0, c.in_default.ensures.taken _ calling.lies))

pub returns : goal.returns
returns g c = record {
  capacity = c.loop-count.invariant.0;
  dealt = λ rule b l sound bought sold few.
      let calling = c.loop-count.invariant.1 rule b l sound bought sold in
      let long = length-take-le c.args.lineup.now.state.capacity c.args.fills.now c.requires in
      let on = calling_on _ b _ _ _ _ _ _ _ calling in
      let used = calling_used _ b _ _ _ _ _ _ _ calling (none_left _ (λ some. omega (arith, (on some).1, few, c.loop-count-test.false, long))) in
      let same : c.counted-2.result ≡ c.loop-count.count = omega (arith, c.counted-2.ensures, l.small, few, used.1, c.loop-count-test.false, c.loop-count.auto.count-end, long) in
      rw same (crossed_so few c.requires used);
}
