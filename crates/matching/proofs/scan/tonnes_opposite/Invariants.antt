use Rattle.std.proofs.Common.{◌≡◌, ◌+◌, ◌≤◌, drop}
use Rattle.matching.specs.Weights.{held_weight, capped}
use Rattle.matching.specs.Scans.{opposite, tonnes_if}
use Rattle.matching.proofs.scan.tonnes_opposite.Given as goal

abbrev pub invariant-loop-place : goal.invariant-loop-place
invariant-loop-place g l =
    (capped (l.sum + held_weight (tonnes_if (opposite l.wanted.side l.wanted.limit)) (drop l.place-iterator.next (g.L.Places.contents l.place-iterator.list.now))) ≡
    capped (held_weight (tonnes_if (opposite l.wanted.side l.wanted.limit)) (g.L.Places.contents l.list))) × (l.sum ≤ 4294967295)
