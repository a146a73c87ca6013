use Rattle.std.proofs.Common.{◌≡◌, length, drop}
use Rattle.ledger.specs.Rows.{after_fills}
use Rattle.ledger.proofs.sums.add_fills.Given as goal

abbrev pub invariant-loop-fill : goal.invariant-loop-fill
invariant-loop-fill l = (length l.rows ≡ 64) × (after_fills (drop l.fill-index l.fills) l.rows ≡ after_fills l.fills l.initial.rows)
