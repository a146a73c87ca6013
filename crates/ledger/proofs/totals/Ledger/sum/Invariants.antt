use Rattle.ledger.proofs.Summing.{Summed}
use Rattle.ledger.proofs.totals.Ledger.sum.Given as goal

abbrev pub invariant-loop-row : goal.invariant-loop-row
invariant-loop-row l = Summed l.self.rows l.row-index l.sum
