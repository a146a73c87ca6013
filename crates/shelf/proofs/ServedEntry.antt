-- An entry that is admitted, from what its fills and its rest leave in the places. Assumes nothing.
use Rattle.std.proofs.Common.{◌≡◌, ℕ, ◌+◌, ◌-◌, ◌≤◌, Bool, false, List, [], ◌++◌, length, drop, Some, None, Ok, Err, sym, refl, ap, ◌∙◌, subst, arith, Option}
use Rattle.orders.specs.declared.request.Side.TheVariants.{Buy, Sell}
use Rattle.orders.specs.declared.entry.Entry.{Entry}
use Rattle.orders.specs.declared.request.Request.TheVariants.{Enter}
use Rattle.orders.specs.declared.order.Order.{Order}
use Rattle.orders.specs.declared.order.Fill.{Fill}
use Rattle.orders.specs.declared.order.Phase.{Phase}
use Rattle.orders.specs.declared.order.Phase.TheVariants.{Gathering}
use Rattle.orders.specs.declared.answer.Answer.{Answer}
use Rattle.orders.specs.declared.refusal.Refusal.{Refusal}
use Rattle.plain.specs.Rule.{Rule}
use Rattle.plain.specs.Dealing.{tonnes}
use Rattle.plain.specs.Book.{Book, Tape, after, resting, entry_fills, entered}
use Rattle.plain.specs.Gate.{refused_by}
use Rattle.plain.specs.Sound.{Sound}
use Rattle.plain.proofs.Rested.{left_tonnes, dealt_book}
use Rattle.plain.proofs.StaysSound.{always_sound}
use Rattle.venue.specs.Meaning.{Served, book_setup}
use Rattle.matching.specs.Weights.{Weight, weight, held_weight}
use Rattle.shelf.specs.HeldGate.{is_full, entry_refusal}
use Rattle.shelf.specs.Entering.{left_of, Laid, entry_answer}
use Rattle.shelf.specs.Stands.{Shows, Stands}
use Rattle.shelf.proofs.Gates.{entry_refused}
use Rattle.shelf.proofs.Laying.{settled_none, entered_shows}
use Rattle.shelf.proofs.Serving.{served_so, served_not}

-- what the fills of an entry leave: the places, how many tonnes of it, and the list
pub record DealtIn (b : Book) (e : Entry) (fs : List Fill) (ps qs : List (Option Order)) (lent list : List Fill) (count left : ℕ) : Type 0 where
  pub fills_are : fs ≡ entry_fills b.phase e b
  pub orders : (w : Weight) → held_weight w qs ≡ weight w (resting (dealt_book b fs))
  pub same_length : length qs ≡ length ps
  pub room : is_full qs ≡ false
  pub no_more : tonnes fs ≤ e.quantity
  pub left_is : left ≡ left_tonnes e fs
  pub count_is : count ≡ length fs
  pub list_is : list ≡ fs ++ drop (length fs) lent

-- while gathering there are none
pub gathered : {rule : Rule} {ps : List (Option Order)} {phase : Phase} {next : ℕ} (b : Book) → Sound rule b → Shows ps phase next b → phase ≡ Gathering →
    is_full ps ≡ false → (e : Entry) (lent : List Fill) → DealtIn b e [] ps ps lent lent 0 e.quantity
gathered b sound shows gathers room e lent =
    record {
      fills_are = ap (λ p. entry_fills p e b) (sym (sym shows.phase_is ∙ gathers));
      orders = λ w. rw (settled_none Buy Buy b.next b.buys sound.buys_live, settled_none Sell Sell b.next b.sells sound.sells_live) (shows.orders w);
      same_length = refl;
      room = room;
      no_more = omega arith;
      left_is = omega arith;
      count_is = refl;
      list_is = refl;
    }

module _ {rule : Rule} {ps : List (Option Order)} {phase : Phase} {next : ℕ} {is_fresh : Bool} (t : Tape) (stands : Stands rule ps phase next is_fresh t) (e : Entry) (lent : List Fill) where
  refused : entry_refusal ps phase next e (length lent) ≡ refused_by (length ps) (after rule t) (Enter e) (length lent)
  refused = entry_refused (after rule t) (always_sound rule stands.lawful t) stands.shows e (length lent)

  pub entry_not : (f : Refusal) → Some f.cause ≡ entry_refusal ps phase next e (length lent) → f.height ≡ Some 0 →
      Served (book_setup rule (length ps)) (Stands rule ps phase next is_fresh) t (Enter e) lent lent (Err f)
  entry_not f h height = served_not t stands (Enter e) lent f (sym (h ∙ refused)) height

  answer_is : (fs : List Fill) (count left : ℕ) → next ≡ (after rule t).next → tonnes fs ≤ e.quantity → left ≡ left_tonnes e fs → count ≡ length fs →
      entry_answer e next count left ≡ (entered rule e (after rule t) fs).answer
  answer_is fs count left next_is no_more left_is count_is =
      let dealt : e.quantity - left_tonnes e fs ≡ tonnes fs = omega arith in
      rw (next_is, left_is, count_is, dealt)

  pub entry_so : (fs list : List Fill) (qs rs : List (Option Order)) (count left : ℕ) (a : Answer) → None ≡ entry_refusal ps phase next e (length lent) →
      DealtIn (after rule t) e fs ps qs lent list count left → Laid e.life (left_of e next left) qs rs → a ≡ entry_answer e next count left →
      Served (book_setup rule (length ps)) (Stands rule rs phase (next + 1) false) t (Enter e) lent list (Ok a)
  entry_so fs list qs rs count left a h d laid answers =
      let b = after rule t in
      let shows = stands.shows in
      served_so t stands (Enter e) lent rs phase (next + 1) a list (sym (h ∙ refused)) (laid.same_length ∙ d.same_length)
      (subst (λ gs. Shows rs phase (next + 1) (entered rule e b gs).book) d.fills_are
      (entered_shows rule b e fs qs rs phase next left d.orders d.left_is shows.phase_is shows.next_is d.room laid))
      (answers ∙ answer_is fs count left shows.next_is d.no_more d.left_is d.count_is ∙ ap (λ gs. (entered rule e b gs).answer) d.fills_are)
      (d.list_is ∙ ap (λ (gs : List Fill). gs ++ drop (length gs) lent) d.fills_are)
