-- What an entry leaves rests in one more place. Assumes nothing.
use Rattle.std.proofs.Common.{◌≡◌, ℕ, ◌+◌, ◌-◌, ◌<◌, Bool, true, false, cond, ◌&&◌, ltb, List, [], ◌∷◌, length, get_or, set, None, sym, refl, ap, ◌∙◌, arith, length-set, Option, Some}
use Rattle.std.proofs.lemmas.Bool.{true≢false, lt-ltb, and_from, cond-true}
use Rattle.orders.specs.declared.request.Side.{Side}
use Rattle.orders.specs.declared.request.Side.TheVariants.{Buy, Sell}
use Rattle.orders.specs.declared.request.Life.{Life}
use Rattle.orders.specs.declared.entry.Entry.{Entry}
use Rattle.orders.specs.declared.order.Order.{Order}
use Rattle.orders.specs.declared.order.Fill.{Fill}
use Rattle.orders.specs.declared.order.Phase.{Phase}
use Rattle.plain.specs.Rule.{Rule}
use Rattle.plain.specs.Dealing.{settled}
use Rattle.plain.specs.Book.{Book, resting, rests, put, entered}
use Rattle.plain.specs.Sound.{AllLive}
use Rattle.plain.proofs.Rested.{left_tonnes, left_order, dealt_book}
use Rattle.matching.specs.Weights.{Weight, weight, place_weight, held_weight}
use Rattle.matching.specs.Scans.{VacantIn}
use Rattle.shelf.specs.HeldGate.{is_full}
use Rattle.shelf.specs.Entering.{left_of, resting_weight, Laid}
use Rattle.shelf.specs.Stands.{Shows}
use Rattle.matching.proofs.Held.{held_set}
use Rattle.matching.proofs.Weighed.{weight_append, weight_placed}
use Rattle.shelf.proofs.Room.{no_room, some_room}

module _ (life : Life) (o : Order) (ps : List (Option Order)) where
  pub laid_in : (k : ℕ) → rests life ≡ true → 0 < o.remaining → k < length ps → get_or ps k None ≡ None → Laid life o ps (set ps k (Some o))
  laid_in k stays some h vacant =
      record {
        same_length = length-set ps k (Some o);
        orders = λ _ w.
            omega (arith, held_set w ps k (Some o) h, ap (place_weight w) vacant, cond-true (rests life && ltb 0 o.remaining) (w o) 0 (and_from _ _ stays (lt-ltb 0 o.remaining some)));
      }

  -- where a place is vacant the list is not full
  pub not_full : (k : ℕ) → VacantIn ps (length ps) (Some k) → is_full ps ≡ true → ⊥
  not_full k vacant full = true≢false (sym full ∙ some_room ps k vacant)

  pub laid_full : VacantIn ps (length ps) None → Laid life o ps ps
  laid_full none = record { same_length = refl; orders = λ room w. absurd (true≢false (sym (no_room ps none) ∙ room)) }

-- fills of nothing settle nothing
pub settled_none : (side of : Side) (next : ℕ) (xs : List Order) → AllLive of next xs → settled side [] xs ≡ xs
settled_none side of next [] live = refl
settled_none side of next (x ∷ xs) live =
    let some : ltb 0 x.remaining ≡ true = lt-ltb 0 x.remaining live.0.some_remains in
    let whole : x.remaining - 0 ≡ x.remaining = omega arith in
    rw (some, whole, settled_none side of next xs live.1)

module _ (w : Weight) (rule : Rule) (o : Order) where
  put_weight : (s : Side) (b : Book) → weight w (resting (put rule s o b)) ≡ w o + weight w (resting b)
  put_weight Buy b = simp (weight_append, weight_placed) (omega arith)
  put_weight Sell b = simp (weight_append, weight_placed) (omega arith)

  put_if : (t : Bool) (s : Side) (b : Book) → weight w (resting (cond t (put rule s o b) b)) ≡ cond t (w o) 0 + weight w (resting b)
  put_if true s b = put_weight s b
  put_if false s b = omega arith

put_phase : (rule : Rule) (o : Order) (t : Bool) (s : Side) (b : Book) → (cond t (put rule s o b) b).phase ≡ b.phase
put_phase rule o true Buy b = refl
put_phase rule o true Sell b = refl
put_phase rule o false s b = refl

put_next : (rule : Rule) (o : Order) (t : Bool) (s : Side) (b : Book) → (cond t (put rule s o b) b).next ≡ b.next
put_next rule o true Buy b = refl
put_next rule o true Sell b = refl
put_next rule o false s b = refl

-- places that have what fills leave of the book, with what is left of the entry laid in them, show the book after it
pub entered_shows : (rule : Rule) (b : Book) (e : Entry) (fs : List Fill) (ps qs : List (Option Order)) (phase : Phase) (next left : ℕ) →
    ((w : Weight) → held_weight w ps ≡ weight w (resting (dealt_book b fs))) → left ≡ left_tonnes e fs → phase ≡ b.phase → next ≡ b.next →
    is_full ps ≡ false → Laid e.life (left_of e next left) ps qs → Shows qs phase (next + 1) (entered rule e b fs).book
entered_shows rule b e fs ps qs phase next left dealt left_is phase_is next_is room laid =
    let t = rests e.life && ltb 0 (left_tonnes e fs) in
    let o = left_order e b fs in
    record {
      orders = λ w.
          let same : resting_weight w e.life (left_of e next left) ≡ resting_weight w e.life o = rw (next_is, left_is) in
          omega (arith, laid.orders room w, same, dealt w, put_if w rule o t e.side (dealt_book b fs));
      phase_is = phase_is ∙ sym (put_phase rule o t e.side (dealt_book b fs));
      next_is = ap (λ n. n + 1) next_is ∙ sym (put_next rule o t e.side (dealt_book b fs));
    }
