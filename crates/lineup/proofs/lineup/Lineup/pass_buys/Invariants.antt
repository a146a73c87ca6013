use Rattle.std.proofs.Common.{◌≤◌, List}
use Rattle.std.specs.List.{AllByRecursion as All}
use Rattle.orders.specs.declared.order.Order.{Order}
use Rattle.plain.specs.Book.{Book}
use Rattle.lineup.specs.Lying.{Lies}
use Rattle.lineup.specs.Sweeps.{SweptBy}
use Rattle.lineup.proofs.lineup.Lineup.pass_buys.Given as goal

abbrev pub invariant-loop-buy : goal.invariant-loop-buy
invariant-loop-buy g l =
    (b : Book) (sold unsold : List Order) → Lies (g.L.Places.contents l.self.mirrored.list) l.self.state b → SweptBy b sold unsold l.initial.sweep → l.limit ≤ 100000 → All (λ o. l.limit ≤ o.price) unsold →
    SweptBy b sold unsold l.sweep

abbrev pub decreases-loop-buy : goal.decreases-loop-buy
decreases-loop-buy g l = l.sweep.left
