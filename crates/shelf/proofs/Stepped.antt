-- One more request: a shelf that shows the book after it stands after the longer tape. Assumes nothing.
use Rattle.std.proofs.Common.{◌≡◌, ℕ, Bool, false, List, [], ◌∷◌, ◌++◌, length, None, sym, refl, subst, Option}
use Rattle.orders.specs.declared.request.Request.{Request}
use Rattle.orders.specs.declared.order.Order.{Order}
use Rattle.orders.specs.declared.order.Phase.{Phase}
use Rattle.plain.specs.Rule.{Rule}
use Rattle.plain.specs.Book.{Book, Tape, from, after, reply}
use Rattle.plain.specs.Book.{fresh as new_book}
use Rattle.plain.specs.Gate.{AdmittedFrom, refused_by}
use Rattle.plain.proofs.Tapes.{from_more}
use Rattle.venue.specs.Questions.{is_empty}
use Rattle.shelf.specs.Stands.{Shows, Stands}

admitted_more : (rule : Rule) (capacity : ℕ) (b : Book) (t : Tape) (q : Request) (n : ℕ) → AdmittedFrom rule capacity b t →
    refused_by capacity (from rule b t) q n ≡ None → AdmittedFrom rule capacity b (t ++ (q ∷ []))
admitted_more rule capacity b [] q n a h = ((n, h), tt)
admitted_more rule capacity b (x ∷ t) q n a h = (a.0, admitted_more rule capacity (reply rule b x).book t q n a.1 h)

not_empty : (t : Tape) (q : Request) → is_empty (t ++ (q ∷ [])) ≡ false
not_empty [] q = refl
not_empty (x ∷ t) q = refl

pub stands_more : {rule : Rule} {ps qs : List (Option Order)} {phase phase' : Phase} {next next' : ℕ} {is_fresh : Bool} {t : Tape} (q : Request) (n : ℕ) →
    Stands rule ps phase next is_fresh t → refused_by (length ps) (after rule t) q n ≡ None → length qs ≡ length ps →
    Shows qs phase' next' (reply rule (after rule t) q).book → Stands rule qs phase' next' false (t ++ (q ∷ []))
stands_more {rule} {ps} {qs} {phase' = phase'} {next' = next'} {t = t} q n s admits same shows =
    record {
      shows = subst (Shows qs phase' next') (sym (from_more rule new_book t q)) shows;
      fresh_is = sym (not_empty t q);
      some_places = rw same s.some_places;
      few_places = rw same s.few_places;
      admitted = rw same (admitted_more rule (length ps) new_book t q n s.admitted admits);
      lawful = s.lawful;
    }
