use Rattle.std.proofs.Common.{drop}
use Rattle.matching.specs.Scans.{HasRank}
use Rattle.matching.proofs.Seen.{Seen}
use Rattle.matching.proofs.scan.with_ahead.Given as goal

abbrev pub invariant-loop-place : goal.invariant-loop-place
invariant-loop-place g l =
    Seen (HasRank (g.R.Ranking.ahead l.rule) l.side l.rank (g.L.Places.contents l.list)) (g.L.Places.contents l.list)
    (drop l.place-iterator.next (g.L.Places.contents l.place-iterator.list.now))
