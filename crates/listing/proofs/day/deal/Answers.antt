use Rattle.std.proofs.Common.{◌≡◌, length, ap, subst}
use Rattle.std.proofs.lemmas.Result.{MatchResult-at_ok}
use Rattle.piles.specs.Day.{day_setup, DayRun}
use Rattle.listing.proofs.day.deal.Goals as goal

pub returns : goal.returns
returns g c =
    let eight : length c.over-list.result.places.now ≡ 8 = ap length c.over-list.ensures in
    let ran = MatchResult-at_ok _ _ _ c.unwrap.ensures c.run.ensures in
    subst (λ n. DayRun (day_setup (g.R.Ranking.ahead c.args.rule) n) c.args.steps.now c.run.new.steps) eight ran
