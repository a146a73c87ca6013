-- A run that cannot be refused, told of another set-up that is the same.
use Rattle.std.proofs.Common.{◌≡◌, List, Ok, Err, Result, subst, MatchResult}
use Rattle.orders.specs.declared.refusal.Cause.{Cause}
use Rattle.venue.specs.declared.step.Step.{Step}
use Rattle.venue.specs.Meaning.{Setup}
use Rattle.piles.specs.Day.{over_book, DayRun}

pub run_at : {U : Type 0} (r : Result U Cause) (v w : Setup) (ss ss' : List Step) (P : Cause → Type 0) → v ≡ w → MatchResult r (λ _. DayRun (over_book v) ss ss') (λ _. ⊥) → MatchResult r (λ _. DayRun (over_book w) ss ss') P
run_at (Ok u) v w ss ss' P same ran = subst (λ x. DayRun (over_book x) ss ss') same ran
run_at (Err c) v w ss ss' P same ran = absurd ran
