use Rattle.ledger.proofs.Balance.{booked_balance}
use Rattle.ledger.proofs.totals.Ledger.book.Goals as goal

pub invariant_of-self : goal.invariant_of-self
invariant_of-self c = record { balanced = booked_balance _ _ c.into_fills.result.now c.args.self.now.balanced c.in_ok-self.ensures.1; within = c.in_ok-self.ensures.2 }

pub returns-clause-balanced : goal.returns-clause-balanced
returns-clause-balanced c = booked_balance _ _ c.into_fills.result.now c.args.self.now.balanced c.in_ok-self.ensures.1
