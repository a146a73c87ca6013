-- A cancel makes the order's place vacant. Assumes nothing.
use Rattle.std.proofs.Common.{◌≡◌, ℕ, not, eqb, List, ◌++◌, length, drop, set, Some, None, sym, ap, ◌∙◌, arith, Option}
use Rattle.orders.specs.declared.order.Fill.{Fill}
use Rattle.std.proofs.lemmas.Bool.{ne_eqb, eq-eqb, cond-false}
use Rattle.orders.specs.declared.cancel.Cancel.{Cancel}
use Rattle.orders.specs.declared.request.Request.TheVariants.{Withdraw}
use Rattle.orders.specs.declared.order.Order.{Order}
use Rattle.orders.specs.declared.order.Phase.{Phase}
use Rattle.orders.specs.declared.answer.Answer.TheVariants.{Withdrawn}
use Rattle.orders.specs.declared.refusal.Cause.TheVariants.{NoSuchOrder}
use Rattle.plain.specs.Rule.{Rule}
use Rattle.plain.specs.Orders.{find, without}
use Rattle.plain.specs.Book.{Book, resting, reply}
use Rattle.plain.specs.Gate.{refused_by}
use Rattle.plain.specs.Sound.{Sound}
use Rattle.plain.proofs.Kept.{numbered}
use Rattle.matching.specs.Weights.{Weight, weight, place_weight, held_weight}
use Rattle.matching.specs.Scans.{NumberedIn, one_if}
use Rattle.shelf.specs.Stands.{Shows}
use Rattle.matching.proofs.Held.{held_set}
use Rattle.matching.proofs.Shown.{held_rests, held_nothing}
use Rattle.shelf.proofs.Found.{resting_distinct, keep_append, found_none, found_one, weight_without}

module _ {rule : Rule} {ps : List (Option Order)} {phase : Phase} {next : ℕ} (b : Book) (sound : Sound rule b) (shows : Shows ps phase next b) (c : Cancel) where
  -- the order found in the places is the one that the plain book finds
  none_found : NumberedIn c.number ps (length ps) None → find c.number (resting b) ≡ None
  none_found none =
      found_none c.number (resting b)
      (sym (shows.orders (one_if (numbered c.number))) ∙
      held_nothing (one_if (numbered c.number)) ps (λ i lt y holds. cond-false {A = ℕ} (numbered c.number y) 1 0 (ne_eqb y.number c.number (none i lt y holds))))

  pub cancel_none : NumberedIn c.number ps (length ps) None → (n : ℕ) → refused_by (length ps) b (Withdraw c) n ≡ Some NoSuchOrder
  cancel_none none n = rw (none_found none)

  module _ (s : ℕ × Order) (found : NumberedIn c.number ps (length ps) (Some s)) where
    one_found : find c.number (resting b) ≡ Some s.1
    one_found = rw (sym found.2) (found_one s.1 (resting b) (resting_distinct b sound) (held_rests ps b shows.orders s.0 s.1 found.0 found.1))

    pub cancel_another : (s.1.member ≡ c.member → ⊥) → (n : ℕ) → refused_by (length ps) b (Withdraw c) n ≡ Some NoSuchOrder
    cancel_another differs n = rw (one_found, ne_eqb s.1.member c.member differs)

    pub cancel_his : s.1.member ≡ c.member → (n : ℕ) → refused_by (length ps) b (Withdraw c) n ≡ None
    cancel_his same n = rw (one_found, eq-eqb s.1.member c.member same)

    pub cancel_answer : Withdrawn (record { number = c.number; side = s.1.side; tonnes = s.1.remaining }) ≡ (reply rule b (Withdraw c)).answer
    cancel_answer = rw one_found

    pub cancel_list : (lent : List Fill) → lent ≡ (reply rule b (Withdraw c)).fills ++ drop (length (reply rule b (Withdraw c)).fills) lent
    cancel_list lent = rw one_found

    cancel_weight : (w : Weight) → held_weight w (set ps s.0 None) ≡ weight w (without c.number b.buys ++ without c.number b.sells)
    cancel_weight w =
        let gone = weight_without s.1 w (resting b) (resting_distinct b sound) (held_rests ps b shows.orders s.0 s.1 found.0 found.1) in
        rw (sym (keep_append (λ o. not (eqb o.number c.number)) b.buys b.sells), sym found.2)
        (omega (arith, gone, held_set w ps s.0 None found.0, ap (place_weight w) found.1, shows.orders w))

    pub cancel_shows : Shows (set ps s.0 None) phase next (reply rule b (Withdraw c)).book
    cancel_shows = rw one_found (record { orders = cancel_weight; phase_is = shows.phase_is; next_is = shows.next_is })
