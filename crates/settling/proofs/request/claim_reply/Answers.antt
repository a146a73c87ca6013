use Rattle.std.proofs.Common.{take, vec_items, ap, ◌∙◌}
use Rattle.orders.specs.Answers.{count}
use Rattle.settling.proofs.OfReply.{claimed_some}
use Rattle.settling.proofs.request.claim_reply.Goals as goal

pub returns : goal.returns
returns g c = λ u s.
    let claim = c.in-Some.claim in
    let made = simp c.in-Some.is at c.in_ok-claim.ensures in
    claimed_some (g.W.Venue.setup c.args.venue.now) u c.args.phase c.args.request.now c.args.reply.now c.in-Ok.answer claim.subject (vec_items claim.fills)
    c.args.ledger.now.rows c.check_and_book.new.ledger.rows c.check_and_book.result
    c.in-Ok.is made.0 (made.1 ∙ ap (take (count c.in-Ok.answer)) c.as_slice.ensures.value) (c.check_and_book.ensures.judged u s) c.check_and_book.ensures.booked c.check_and_book.ensures.fits
