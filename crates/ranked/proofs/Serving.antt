-- A book that stands after a tape, and a request that it handles. Assumes nothing.
use Rattle.std.proofs.Common.{◌≡◌, ℕ, false, List, [], ◌∷◌, ◌++◌, length, None, Ok, sym, refl, ap, ◌∙◌, subst, Option}
use Rattle.orders.specs.declared.request.Request.{Request}
use Rattle.orders.specs.declared.answer.Answer.{Answer}
use Rattle.orders.specs.declared.order.Order.{Order}
use Rattle.orders.specs.declared.order.Fill.{Fill}
use Rattle.plain.specs.Rule.{Rule}
use Rattle.plain.specs.Book.{Book, Tape, from, after, fresh, reply}
use Rattle.plain.specs.Gate.{refused_by, AdmittedFrom}
use Rattle.plain.proofs.Tapes.{from_more}
use Rattle.venue.specs.Meaning.{Served, outcome, laid, joined, at_height, book_setup}
use Rattle.venue.specs.Questions.{is_empty}
use Rattle.lineup.specs.declared.state.State.{State}
use Rattle.lineup.specs.Lying.{Lies}
use Rattle.ranked.specs.Standing.{Stands}
use Rattle.ranked.specs.Handling.{Accepted}
use Rattle.lineup.proofs.Laying.{relabelled}

admitted_more : (rule : Rule) (capacity n : ℕ) (b : Book) (t : Tape) (q : Request) → AdmittedFrom rule capacity b t → refused_by capacity (from rule b t) q n ≡ None → AdmittedFrom rule capacity b (t ++ (q ∷ []))
admitted_more rule capacity n b [] q a e = ((n, e), tt)
admitted_more rule capacity n b (x ∷ t) q a e = (a.0, admitted_more rule capacity n (reply rule b x).book t q a.1 e)

not_empty : (t : Tape) (q : Request) → is_empty (t ++ (q ∷ [])) ≡ false
not_empty [] q = refl
not_empty (x ∷ t) q = refl

module _ (rule : Rule) (t : Tape) (q : Request) (s : State) (places places' : List (Option Order)) (lent left : List Fill) (st : Stands rule places s t) where
  pub served_ok : (answer : Answer) (s' s'' : State) → Accepted rule (after rule t) q s s' places' lent left answer → s''.buys ≡ s'.buys → s''.sells ≡ s'.sells → s''.capacity ≡ s'.capacity →
      s''.phase ≡ s'.phase → s''.next ≡ s'.next → s''.is_fresh ≡ false →
      Served (book_setup rule s.capacity) (Stands rule places' s'') t q lent left (Ok answer)
  served_ok answer s' s'' a buys sells capacity phase next stale =
      let r = reply rule (after rule t) q in
      let same = capacity ∙ a.capacity in
      record {
        answered = ap Ok a.answered ∙ sym (ap (λ x. outcome (at_height 0 x None) r) a.admitted);
        list = a.list ∙ sym (ap (λ x. laid (at_height 0 x None) r lent) a.admitted);
        tape = subst (λ x. Stands rule places' s'' (joined (at_height 0 x None) t q)) (sym a.admitted) (record {
          lies = subst (Lies places' s'') (sym (from_more rule fresh t q)) (relabelled places' s' s'' r.book r.book a.lies buys sells capacity refl refl (phase ∙ a.lies.phase_is) (next ∙ a.lies.next_is));
          fresh_is = stale ∙ sym (not_empty t q);
          capacity_low = rw same st.capacity_low;
          admitted = rw same (admitted_more rule s.capacity (length lent) fresh t q st.admitted a.admitted);
          lawful = st.lawful;
        });
      }
