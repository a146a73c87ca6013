use Rattle.std.proofs.Common.{◌≡◌, None}
use Rattle.matching.specs.Scans.{VacantIn}
use Rattle.matching.proofs.scan.vacant.Given as goal

abbrev pub invariant-loop-i : goal.invariant-loop-i
invariant-loop-i g l =
    VacantIn (g.L.Places.contents l.list) l.i-iterator.next None ×
    (g.L.Places.contents l.i-iterator.list.now ≡ g.L.Places.contents l.list)
