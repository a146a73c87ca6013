use Rattle.std.proofs.Common.{◌≡◌, ◌≤◌}
use Rattle.plain.specs.Rule.{Rule}
use Rattle.plain.specs.Orders.{total}
use Rattle.plain.specs.Dealing.{dealt}
use Rattle.plain.specs.Book.{Book}
use Rattle.plain.specs.Sound.{Sound}
use Rattle.lineup.specs.Lying.{Lies}
use Rattle.ranked.proofs.Called.{Calling}
use Rattle.ranked.proofs.cross.crossed.Given as goal

abbrev pub invariant-loop-count : goal.invariant-loop-count
invariant-loop-count g l =
    (l.lineup.state.capacity ≡ l.initial.lineup.state.capacity) ×
    ((rule : Rule) (b : Book) → Lies (g.L.Places.contents l.initial.lineup.mirrored.list) l.initial.lineup.state b → Sound rule b → l.n ≤ total b.buys → l.n ≤ total b.sells →
    Calling l.price b (dealt (λ _ _. l.price) l.n b.buys b.sells) (g.L.Places.contents l.lineup.mirrored.list) l.lineup.state l.left l.count l.initial.place-items l.place-items)
