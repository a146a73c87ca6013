use Rattle.std.proofs.Common.{◌≡◌, ◌+◌, ◌≤◌}
use Rattle.plain.specs.Orders.{other}
use Rattle.plain.specs.Book.{Book, side}
use Rattle.lineup.specs.Lying.{Lies}
use Rattle.ranked.specs.ByTurns.{by_turns, left_by}
use Rattle.ranked.proofs.Going.{Going}
use Rattle.ranked.proofs.deal.deal.Given as goal

abbrev pub invariant-loop-count : goal.invariant-loop-count
invariant-loop-count g l =
    (l.lineup.state.capacity ≡ l.initial.lineup.state.capacity) ×
    (l.lineup.state.buys + l.lineup.state.sells ≤ l.initial.lineup.state.buys + l.initial.lineup.state.sells) ×
    ((b : Book) → Lies (g.L.Places.contents l.initial.lineup.mirrored.list) l.initial.lineup.state b →
    Going l.taker.side l.taker b
    (by_turns l.taker.side l.taker l.n (side (other l.taker.side) b))
    (left_by l.n (side (other l.taker.side) b))
    (g.L.Places.contents l.lineup.mirrored.list) l.lineup.state l.left l.count l.initial.place-items l.place-items)
