-- What was served, from what was refused or admitted. Assumes nothing.
use Rattle.std.proofs.Common.{◌≡◌, ℕ, Bool, false, List, ◌++◌, length, drop, Some, None, Ok, Err, Option, sym, subst}
use Rattle.orders.specs.declared.request.Request.{Request}
use Rattle.orders.specs.declared.order.Order.{Order}
use Rattle.orders.specs.declared.order.Fill.{Fill}
use Rattle.orders.specs.declared.order.Phase.{Phase}
use Rattle.orders.specs.declared.answer.Answer.{Answer}
use Rattle.orders.specs.declared.refusal.Refusal.{Refusal}
use Rattle.plain.specs.Rule.{Rule}
use Rattle.plain.specs.Book.{Tape, after, reply}
use Rattle.plain.specs.Gate.{refused_by}
use Rattle.venue.specs.Meaning.{Served, book_setup}
use Rattle.shelf.specs.Stands.{Shows, Stands}
use Rattle.shelf.proofs.Stepped.{stands_more}

module _ {rule : Rule} {ps : List (Option Order)} {phase : Phase} {next : ℕ} {is_fresh : Bool} (t : Tape) (stands : Stands rule ps phase next is_fresh t) (q : Request) (lent : List Fill) where
  pub served_not : (f : Refusal) → refused_by (length ps) (after rule t) q (length lent) ≡ Some f.cause → f.height ≡ Some 0 →
      Served (book_setup rule (length ps)) (Stands rule ps phase next is_fresh) t q lent lent (Err f)
  served_not f refused height =
      let is : f ≡ record { cause = f.cause; height = Some 0 } = λ i. record { cause = f.cause; height = height i } in
      subst (λ r. Served (book_setup rule (length ps)) (Stands rule ps phase next is_fresh) t q lent lent (Err r)) (sym is)
      (record { answered = rw refused; list = rw refused; tape = rw refused stands })

  pub served_so : (qs : List (Option Order)) (phase' : Phase) (next' : ℕ) (a : Answer) (left : List Fill) →
      refused_by (length ps) (after rule t) q (length lent) ≡ None → length qs ≡ length ps → Shows qs phase' next' (reply rule (after rule t) q).book →
      a ≡ (reply rule (after rule t) q).answer → left ≡ (reply rule (after rule t) q).fills ++ drop (length (reply rule (after rule t) q).fills) lent →
      Served (book_setup rule (length ps)) (Stands rule qs phase' next' false) t q lent left (Ok a)
  served_so qs phase' next' a left admitted same shows answer list =
      record { answered = rw (admitted, answer); list = rw admitted list; tape = rw admitted (stands_more q (length lent) stands admitted same shows) }
