use Rattle.std.proofs.Common.{◌<◌, length, sym, ◌∙◌, arith}
use Rattle.std.proofs.lemmas.List.{get_or_default}
use Rattle.std.proofs.lemmas.List.Filters.{FiltersInPlace-more_no, FiltersInPlace-more_set}
use Rattle.replay.proofs.lists.retain_within.Goals as goal
use Rattle.replay.proofs.lists.retain_within.Goals.{then-reaches, else-reaches}

pub loop-i-preserved : goal.loop-i-preserved
loop-i-preserved c =
    let inside : c.loop-i.i < length c.loop-i.orders = omega arith in
    elim c.if-reaches.branch [
      | then-reaches w ↦ rw (w.orders-is, w.n-is) (FiltersInPlace-more_set c.loop-i.invariant inside (sym c.reaches.ensures ∙ w.if-reaches.true) (get_or_default c.loop-i.orders c.loop-i.i _ _ inside))
      | else-reaches w ↦ rw (w.orders-is, w.n-is) (FiltersInPlace-more_no c.loop-i.invariant inside (sym c.reaches.ensures ∙ w.if-reaches.false) (get_or_default c.loop-i.orders c.loop-i.i _ _ inside))
    ]
