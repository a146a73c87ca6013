use Rattle.std.proofs.Common.{◌≡◌}
use Rattle.ranking.specs.Search.{FirstIn}
use Rattle.ranking.proofs.finding.first_where.Given as goal

abbrev pub invariant-loop-i : goal.invariant-loop-i
invariant-loop-i g l =
    FirstIn (g.T.Test.passing l.wanted) (g.R.Ranking.ahead l.ranking) (g.L.Places.contents l.list) l.i-iterator.next l.found ×
    (g.L.Places.contents l.i-iterator.list.now ≡ g.L.Places.contents l.list)
