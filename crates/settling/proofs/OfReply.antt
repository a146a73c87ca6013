-- A claim that was made of a reply, checked and booked.
use Rattle.std.proofs.Common.{◌≡◌, List, take, Some, Ok, vec_items, Result, sym, ap, ◌∙◌, subst, OnOk}
use Rattle.orders.specs.declared.order.Phase.{Phase}
use Rattle.orders.specs.declared.order.Fill.{Fill}
use Rattle.orders.specs.declared.request.Request.{Request}
use Rattle.orders.specs.declared.answer.Answer.{Answer}
use Rattle.orders.specs.Answers.{count}
use Rattle.plain.specs.Book.{Tape}
use Rattle.venue.specs.Meaning.{Setup}
use Rattle.claims.specs.declared.claim.Subject.{Subject}
use Rattle.claims.specs.Judged.{JudgedAt}
use Rattle.ledger.specs.declared.row.Row.{Row}
use Rattle.settling.specs.declared.reply.Reply.{Reply}
use Rattle.settling.specs.declared.unbooked.Unbooked.{Unbooked}
use Rattle.settling.specs.Claimed.{subject_of}
use Rattle.ledger.specs.Booking.{Fits}
use Rattle.settling.specs.Bookings.{verdict, BookedOrNot}
use Rattle.settling.specs.Replies.{count_of, dealt_in}
use Rattle.settling.specs.Settled.{claimed_for, Claimed}

pub claimed_some : (w : Setup) (u : Tape) (phase : Phase) (q : Request) (x : Reply) (a : Answer) (s : Subject) (fills : List Fill) (rows rows' : List Row) (r : Result (Unit {0}) Unbooked) →
    x.outcome ≡ Ok a → subject_of phase q a ≡ Some s → fills ≡ take (count a) (vec_items x.fills) → JudgedAt w u s fills (verdict r) → BookedOrNot rows fills rows' r → OnOk r (Fits rows fills) →
    Claimed w u (claimed_for phase q x.outcome) (dealt_in x) rows rows' r
claimed_some w u phase q x a s fills rows rows' r ok subject are judged booked fits =
    let subject_is : claimed_for phase q x.outcome ≡ Some s = ap (claimed_for phase q) ok ∙ subject in
    let fills_are : fills ≡ dealt_in x = are ∙ ap (λ o. take (count_of o) (vec_items x.fills)) (sym ok) in
    subst (λ o. Claimed w u o (dealt_in x) rows rows' r) (sym subject_is)
    (subst (λ fs. JudgedAt w u s fs (verdict r)) fills_are judged, subst (λ fs. BookedOrNot rows fs rows' r) fills_are booked, subst (λ fs. OnOk r (Fits rows fs)) fills_are fits)
