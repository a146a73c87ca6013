use Rattle.std.proofs.Common.{◌≡◌, drop}
use Rattle.matching.specs.Quotes.{best_over, best_quote}
use Rattle.matching.proofs.quote.best_quote.Given as goal

abbrev pub invariant-loop-place : goal.invariant-loop-place
invariant-loop-place g l =
    best_over (g.L.Places.contents l.list) l.best (drop l.place-iterator.next (g.L.Places.contents l.place-iterator.list.now)) ≡ best_quote (g.L.Places.contents l.list)
