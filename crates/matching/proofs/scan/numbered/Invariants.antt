use Rattle.std.proofs.Common.{◌≡◌, None}
use Rattle.matching.specs.Scans.{NumberedIn}
use Rattle.matching.proofs.scan.numbered.Given as goal

abbrev pub invariant-loop-i : goal.invariant-loop-i
invariant-loop-i g l =
    NumberedIn l.number (g.L.Places.contents l.list) l.i-iterator.next None ×
    (g.L.Places.contents l.i-iterator.list.now ≡ g.L.Places.contents l.list)
