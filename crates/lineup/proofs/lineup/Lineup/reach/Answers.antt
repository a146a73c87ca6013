use Rattle.orders.specs.declared.request.Side.TheVariants.{Buy, Sell}
use Rattle.lineup.proofs.Worth.{reached}
use Rattle.lineup.proofs.lineup.Lineup.reach.Goals as goal

pub returns-in-Sell : goal.returns-in-Sell
returns-in-Sell g c b l = reached _ _ b l Sell _ _ _ _ _ c.in-Sell.is c.opposite-seer.ensures c.start-start.ensures c.sum_within.ensures

pub returns-in-Buy : goal.returns-in-Buy
returns-in-Buy g c b l = reached _ _ b l Buy _ _ _ _ _ c.in-Buy.is c.opposite-seer.ensures c.start-start.ensures c.sum_within-in-Buy.ensures
