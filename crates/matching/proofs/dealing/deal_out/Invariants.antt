use Rattle.std.proofs.Common.{◌≡◌}
use Rattle.matching.specs.Deals.{RunTo}
use Rattle.matching.proofs.dealing.deal_out.Given as goal

abbrev pub invariant-loop-place : goal.invariant-loop-place
invariant-loop-place g l =
    RunTo (g.R.Ranking.ahead l.rule) l.deal l.tonnes (g.L.Places.contents l.initial.list) l.initial.fills l.count (g.L.Places.contents l.list) l.fills l.left ×
    (l.count ≡ l.place-index)
