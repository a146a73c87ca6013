use Rattle.std.proofs.Common.{◌≡◌, ◌+◌, ◌-◌, ◌^◌, ◌≤◌, min, drop}
use Rattle.lineup.specs.Layout.{worth}
use Rattle.lineup.proofs.sums.sum_within.Given as goal

abbrev pub invariant-loop-place : goal.invariant-loop-place
invariant-loop-place g l =
    (min (l.sum + worth l.side l.limit (drop l.place-iterator.next (g.L.Places.contents l.place-iterator.list.now))) (2 ^ 32 - 1) ≡
    min (worth l.side l.limit (drop l.start (g.L.Places.contents l.list))) (2 ^ 32 - 1)) × (l.sum ≤ 2 ^ 32 - 1)
