use Rattle.std.proofs.Common.{ap}
use Rattle.piles.proofs.Runs.{run_at}
use Rattle.piles.proofs.day.run_day.Goals as goal

pub returns : goal.returns
returns g c =
    let opened = c.in_ok-open.ensures in
    run_at c.run_over.result _ _ c.args.steps.now c.run_over.new.steps _ opened.plain
    (c.run_over.ensures (ap (λ s. s.height) opened.plain) opened.fresh)
