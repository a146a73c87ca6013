use Rattle.std.proofs.Common.{◌≡◌, take, drop}
use Rattle.venue.proofs.Turns.{Taken}
use Rattle.venue.proofs.run.run.Given as goal

-- the steps before the index were taken, and those from it on are as they were
abbrev pub invariant-loop-step : goal.invariant-loop-step
invariant-loop-step g l =
    Taken g.V.Venue.setup g.V.Venue.stands l.initial.venue l.venue (take l.step-index l.initial.steps) (take l.step-index l.steps) ×
    (drop l.step-index l.steps ≡ drop l.step-index l.initial.steps)
