use Rattle.std.proofs.Common.{◌∙◌, arith}
use Rattle.orders.specs.declared.request.Side.TheVariants.{Sell}
use Rattle.plain.proofs.Price.{best_price_is_best}
use Rattle.lineup.proofs.Laying.{own_from}
use Rattle.lineup.proofs.Quoting.{quoted}
use Rattle.lineup.proofs.Sweeping.{swept_all}
use Rattle.lineup.proofs.Meeting.{swept_to_none, swept_to_more, swept_to_all}
use Rattle.lineup.proofs.lineup.Lineup.quote.Goals as goal

pub loop-place-init : goal.loop-place-init
loop-place-init g c rule b lawful l sound =
    swept_to_none _ _ b l rule lawful sound _ (c.reach.ensures b l) _ (rw (c.into_iter-place-iterator.ensures.into_iter_gives, c.each_from-place-items.ensures.0) (c.each_from-place-items.ensures.2 ∙ own_from _ _ b l Sell _ c.start.ensures))

pub loop-place-preserved : goal.loop-place-preserved
loop-place-preserved g c rule b lawful l sound =
    let t = c.loop-place.invariant rule b lawful l sound in
    swept_to_more b _ _ _ _ _ t c.in-Some.ensures.steps.1.5 (λ y later holds s. c.pass_place-sweep.ensures b t.sold y later l holds s)

pub returns : goal.returns
returns g c rule b lawful l sound =
    let t = c.loop-place.invariant rule b lawful l sound in
    let none = swept_to_all b _ _ t c.in-None.ensures.steps.1.1 in
    let passed = c.pass_buys.ensures b t.sold t.unsold l t.swept (omega arith) (rw none tt) in
    let best = swept_all b t.sold t.unsold _ none passed in
    quoted b.buys b.sells c.quote.result (best_price_is_best b.next b.buys b.sells sound.sells_live) (rw c.quote.ensures best)
