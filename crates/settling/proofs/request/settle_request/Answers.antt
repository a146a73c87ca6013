use Rattle.std.proofs.Common.{sym, subst}
use Rattle.plain.specs.Book.{Tape}
use Rattle.settling.specs.Settled.{Settled}
use Rattle.settling.proofs.Replying.{settled_by}
use Rattle.settling.proofs.Alike.{settled_alike}
use Rattle.settling.proofs.request.settle_request.Goals as goal

pub returns : goal.returns
returns g c =
    let v = g.V.Venue.setup c.args.first.now in
    let w = g.W.Venue.setup c.args.second.now in
    let q = c.args.request in
    let rows = c.args.ledger.now.rows in
    let rows' = c.claim_reply.new.ledger.rows in
    let first = c.in_ok-reply.ensures.replied in
    let second = c.in_ok-again.ensures.replied in
    let settled : (t u : Tape) → g.V.Venue.stands c.args.first.now t → g.W.Venue.stands c.args.second.now u → Settled v w t u q rows rows' c.fault_of.result =
    λ t u s s'. settled_by v w (g.V.Venue.stands c.reply_of.new.venue) (g.W.Venue.stands c.reply_of-2.new.venue) t u q c.in_ok-reply.reply c.in_ok-again.again c.phase-phase.result rows rows' c.in_ok-booked.booked c.is_same.result c.fault_of.result
    (first t s) (second u s') (c.phase-phase.ensures t s) (c.in_ok-booked.ensures u s') c.is_same.ensures c.fault_of.ensures in
    record {
      first = record { same = c.reply_of.ensures.same; stood = λ t s. (first t s).tape };
      second = record { same = c.reply_of-2.ensures.same; stood = λ u s. (second u s).tape };
      settled = settled;
      alike = λ t s s' same.
          settled_alike v t (first t s).kept q rows rows' c.fault_of.result
          (subst (λ x. Settled v x t t q rows rows' c.fault_of.result) (sym same) (settled t t s s')) c.args.ledger.now.within;
    }
