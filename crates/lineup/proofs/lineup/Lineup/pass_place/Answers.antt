use Rattle.std.proofs.Common.{◌≡◌, ◌∷◌, sym, ◌∙◌, subst}
use Rattle.lineup.specs.Sweeps.{SweptBy}
use Rattle.lineup.proofs.Sweeping.{sell_next, first_sell}
use Rattle.lineup.proofs.Meeting.{holds_same}
use Rattle.lineup.proofs.lineup.Lineup.pass_place.Goals as goal

pub returns-in-Some : goal.returns-in-Some
returns-in-Some g c b sold y later l holds s =
    let sell = c.in-Some.sell in
    let same : y ≡ sell = holds_same (sym holds ∙ c.in-Some.is) in
    let t = subst (λ o. SweptBy b sold (o ∷ later) c.args.sweep) same s in
    let first = first_sell b sold sell later _ t in
    let passed = c.pass_buys.ensures b sold (sell ∷ later) l t first.0 first.1 in
    rw (same, c.pass_sell.ensures) (sell_next b sold sell later _ passed)
