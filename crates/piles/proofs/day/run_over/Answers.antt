use Rattle.std.proofs.Common.{[], get_or, replicate, subst, arith}
use Rattle.piles.specs.Day.{pile_setup, DayRun}
use Rattle.piles.proofs.Thousand.{at_most}
use Rattle.piles.proofs.day.run_over.Goals as goal

pub returns : goal.returns
returns g c low fresh =
    let piled = c.in_ok-pile.ensures.book low fresh in
    let whole = c.run.ensures.whole [] piled.fresh in
    let day : DayRun (pile_setup g.V.Venue.setup g.V.Venue.stands c.in_ok-pile.pile) c.args.steps.now c.run.new.steps = record {
      whole = whole;
      within_thousand = λ done rest is m. omega (arith, (whole.between_steps done rest is).within_caps (λ k. get_or (replicate 64 1000) k 0) piled.binds tt m, at_most 64 m 1000);
    } in
    subst (λ v. DayRun v c.args.steps.now c.run.new.steps) piled.set_up day
