use Rattle.std.proofs.Common.{take, ap, ◌∙◌}
use Rattle.plain.specs.Orders.{other}
use Rattle.claims.proofs.Standing.{entry_stands}
use Rattle.claims.proofs.check.entry_holds.Goals as goal

pub returns : goal.returns
returns g c = λ t s next.
    entry_stands (g.V.Venue.setup c.args.venue.now) t (c.keeps.ensures t s) c.args.entry.now c.args.number c.args.fills.now c.opposite.result
    (take c.copy_ranks-count.result c.copy_ranks-count.new.list) c.entry_agrees.result
    (c.opposite.ensures ∙ ap other c.side.ensures) (c.copy_ranks-count.ensures.copied t s) next c.entry_agrees.ensures
