use Rattle.std.proofs.lemmas.List.Filters.{FiltersInPlace}
use Rattle.plain.specs.Orders.{within}
use Rattle.replay.proofs.lists.retain_within.Given as goal

abbrev pub invariant-loop-i : goal.invariant-loop-i
invariant-loop-i l = FiltersInPlace (within l.side l.limit) l.initial.orders l.orders l.n l.i
