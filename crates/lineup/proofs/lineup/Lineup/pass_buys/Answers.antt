use Rattle.lineup.proofs.Sweeping.{next_passed, none_next}
use Rattle.lineup.proofs.lineup.Lineup.pass_buys.Goals as goal

pub loop-buy-preserved : goal.loop-buy-preserved
loop-buy-preserved g c b sold unsold l s high over =
    let t = c.loop-buy.invariant b sold unsold l s high over in
    let n = c.in-Some.ensures.next b t.below t.above l t.swept.buys_are t.swept.left_is in
    rw c.pass_buy-sweep.ensures (next_passed _ b sold unsold _ t _ n high over)

pub returns : goal.returns
returns g c b sold unsold l s high over =
    let t = c.loop-buy.invariant b sold unsold l s high over in
    none_next _ b sold unsold _ t (c.in_default.ensures.next b t.below t.above l t.swept.buys_are t.swept.left_is)
