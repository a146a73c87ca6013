use Rattle.std.proofs.Common.{◌≡◌, ◌+◌, ◌≤◌, length, drop}
use Rattle.venue.specs.Steps.{admitted}
use Rattle.listing.proofs.lines.count_admitted.Given as goal

abbrev pub invariant-loop-step : goal.invariant-loop-step
invariant-loop-step l =
    (l.count + length (admitted (drop l.step-index l.steps)) ≡ length (admitted l.steps)) × (l.count ≤ l.step-index)
