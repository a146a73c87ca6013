use Rattle.std.proofs.Common.{take}
use Rattle.claims.proofs.Standing.{call_stands}
use Rattle.claims.proofs.check.call_holds.Goals as goal

pub returns : goal.returns
returns g c = λ t s.
    call_stands (g.V.Venue.setup c.args.venue.now) t (c.keeps.ensures t s) c.args.price c.args.volume c.args.fills.now
    (take c.copy_ranks-bought.result c.copy_ranks-bought.new.list) (take c.copy_ranks-sold.result c.copy_ranks-sold.new.list) c.call_agrees.result
    (c.copy_ranks-bought.ensures.copied t s) (c.copy_ranks-sold.ensures.copied t s) c.call_agrees.ensures
