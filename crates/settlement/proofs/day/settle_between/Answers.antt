use Rattle.std.proofs.Common.{[], vec_items, ap}
use Rattle.std.proofs.lemmas.Result.{IfOk-weaker, MatchResult-at_ok}
use Rattle.piles.specs.Day.{pile_setup}
use Rattle.settlement.proofs.Alike.{day_clear}
use Rattle.settlement.proofs.day.settle_between.Goals as goal

pub returns : goal.returns
returns g c =
    let one = c.requires.one in
    let other = c.requires.other in
    let first = MatchResult-at_ok _ _ _ c.unwrap-first.ensures (c.pile_over.ensures.book (ap (λ s. s.height) one.0) one.1) in
    let second = MatchResult-at_ok _ _ _ c.unwrap-second.ensures (c.pile_over-2.ensures.book (ap (λ s. s.height) other.0) other.1) in
    IfOk-weaker c.settle_items.result _ _
    (λ notes settled.
    day_clear (pile_setup g.V.Venue.setup g.V.Venue.stands c.unwrap-first.result) (pile_setup g.W.Venue.setup g.W.Venue.stands c.unwrap-second.result) (g.V.Venue.setup c.args.one) (g.W.Venue.setup c.args.other)
    c.args.ledger.now.rows c.settle_items.new.ledger.rows c.args.records.now (vec_items notes)
    first.set_up one.0 second.set_up other.0 c.requires.empty first.binds (settled [] [] first.fresh second.fresh))
    c.settle_items.ensures.settled
