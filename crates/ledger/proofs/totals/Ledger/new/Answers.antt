use Rattle.std.proofs.Common.{refl}
use Rattle.ledger.proofs.Balance.{none_balance}
use Rattle.ledger.proofs.totals.Ledger.new.Goals as goal

pub invariant_of-result : goal.invariant_of-result
invariant_of-result c = record { balanced = none_balance; within = refl }
