use Rattle.std.proofs.Common.{◌≡◌, ◌+◌, ◌≤◌, drop}
use Rattle.matching.specs.Weights.{held_weight}
use Rattle.matching.specs.Scans.{ahead_of}
use Rattle.matching.proofs.scan.count_ahead.Given as goal

abbrev pub invariant-loop-place : goal.invariant-loop-place
invariant-loop-place g l =
    (l.n + held_weight (ahead_of (g.R.Ranking.ahead l.rule) l.o) (drop l.place-iterator.next (g.L.Places.contents l.place-iterator.list.now)) ≡
    held_weight (ahead_of (g.R.Ranking.ahead l.rule) l.o) (g.L.Places.contents l.list)) × (l.n ≤ l.place-iterator.next)
