use Rattle.std.proofs.Common.{◌≡◌, ◌≤◌, List, length, drop}
use Rattle.orders.specs.declared.order.Order.{Order}
use Rattle.lineup.specs.Layout.{held}
use Rattle.lineup.proofs.Finding.{Finding}
use Rattle.lineup.proofs.sides.numbered_from.Given as goal

abbrev pub invariant-loop-i : goal.invariant-loop-i
invariant-loop-i g l =
    (os : List Order) → l.start ≤ length (g.L.Places.contents l.list) → drop l.start (g.L.Places.contents l.list) ≡ held os →
    Finding l.number l.start l.i-iterator.next (drop l.i-iterator.next (g.L.Places.contents l.i-iterator.list.now)) os
