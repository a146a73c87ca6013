use Rattle.std.proofs.Common.{take, vec_items}
use Rattle.settling.proofs.Onward.{SoFar}
use Rattle.settling.proofs.items.settle_items.Given as goal

abbrev pub invariant-loop-i : goal.invariant-loop-i
invariant-loop-i g l =
    SoFar g.V.Venue.setup g.V.Venue.stands g.W.Venue.setup g.W.Venue.stands l.initial.first l.first l.initial.second l.second l.initial.ledger.rows l.ledger.rows (take l.i l.items) (vec_items l.notes)
