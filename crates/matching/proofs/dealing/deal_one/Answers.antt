use Rattle.std.proofs.Common.{arith}
use Rattle.matching.specs.declared.dealing.Deal.TheVariants.{Entry, Call}
use Rattle.matching.proofs.Running.{one_deal}
use Rattle.matching.proofs.dealing.deal_one.Goals as goal

pub returns-in-Entry : goal.returns-in-Entry
returns-in-Entry g c =
    one_deal (g.R.Ranking.ahead c.args.rule.now) (g.L.Places.contents c.args.list.now) (g.L.Places.contents c.deal_opposite.new.list)
    c.args.deal.now (Entry c.in-Entry.o) c.args.left c.deal_opposite.result c.in-Entry.is (omega arith) c.deal_opposite.ensures

pub returns-in-Call : goal.returns-in-Call
returns-in-Call g c =
    one_deal (g.R.Ranking.ahead c.args.rule.now) (g.L.Places.contents c.args.list.now) (g.L.Places.contents c.deal_pair.new.list)
    c.args.deal.now (Call c.in-Call.price) c.args.left c.deal_pair.result c.in-Call.is (omega arith) c.deal_pair.ensures
