use Rattle.std.proofs.Common.{vec_items, subst}
use Rattle.std.proofs.lemmas.List.{take_all}
use Rattle.settling.proofs.Onward.{SoFar, so_far_none, so_far_more}
use Rattle.settling.proofs.items.settle_items.Goals as goal

pub loop-i-init : goal.loop-i-init
loop-i-init g c =
    so_far_none g.V.Venue.setup g.V.Venue.stands g.W.Venue.setup g.W.Venue.stands c.args.first.now c.args.second.now c.args.ledger.now.rows (vec_items c.new-notes.result) c.new-notes.ensures.items

pub loop-i-preserved : goal.loop-i-preserved
loop-i-preserved g c =
    let done = c.in_ok-fault.ensures in
    so_far_more g.V.Venue.setup g.V.Venue.stands g.W.Venue.setup g.W.Venue.stands c.args.first.now c.loop-i.first c.settle_item.new.first c.args.second.now c.loop-i.second c.settle_item.new.second
    c.args.ledger.now.rows c.loop-i.ledger.rows c.settle_item.new.ledger.rows c.args.items.now c.loop-i.i c.index-items-i.result (vec_items c.loop-i.notes) (vec_items c.note.new.notes) c.in_ok-fault.fault
    c.loop-i.invariant c.loop-i-test.true c.index-items-i.is done.first done.second done.settled c.in_ok-note.ensures

pub returns : goal.returns
returns g c =
    let all = subst (λ xs. SoFar g.V.Venue.setup g.V.Venue.stands g.W.Venue.setup g.W.Venue.stands c.args.first.now c.loop-i.first c.args.second.now c.loop-i.second c.args.ledger.now.rows c.loop-i.ledger.rows xs (vec_items c.loop-i.notes))
    (take_all c.loop-i.i c.args.items.now c.loop-i-test.false) c.loop-i.invariant in
    record { first = all.first; second = all.second; settled = all.settled }
