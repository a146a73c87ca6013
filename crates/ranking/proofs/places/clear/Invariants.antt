use Rattle.std.proofs.Common.{◌≡◌, length, take, replicate, None}
use Rattle.ranking.proofs.places.clear.Given as goal

abbrev pub invariant-loop-i : goal.invariant-loop-i
invariant-loop-i g l =
    (length (g.L.Places.contents l.list) ≡ length (g.L.Places.contents l.initial.list)) ×
    (take l.i (g.L.Places.contents l.list) ≡ replicate l.i None)
