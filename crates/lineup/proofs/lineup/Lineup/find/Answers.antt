use Rattle.std.proofs.Common.{arith}
use Rattle.orders.specs.declared.request.Side.TheVariants.{Buy, Sell}
use Rattle.lineup.proofs.Mirror.{seen_length}
use Rattle.lineup.proofs.Laying.{own_from}
use Rattle.lineup.proofs.lineup.Lineup.find.Goals as goal

pub returns-in-Sell : goal.returns-in-Sell
returns-in-Sell g c b l =
    rw (← c.start-start.ensures, c.in-Sell.is)
    (c.numbered_from.ensures b.sells (omega (arith, c.start-start.ensures, l.size)) (own_from _ _ b l Sell _ (rw c.in-Sell.is at c.start-start.ensures)))

pub returns-in-Buy : goal.returns-in-Buy
returns-in-Buy g c b l =
    rw (← c.start-start.ensures, c.in-Buy.is)
    (c.numbered_from-in-Buy.ensures b.buys (omega (arith, c.start-start.ensures, l.size, seen_length Buy (g.L.Places.contents c.args.self.now.mirrored.list))) (own_from _ _ b l Buy _ (rw c.in-Buy.is at c.start-start.ensures)))
