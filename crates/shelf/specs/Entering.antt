-- What an entry leaves in the places. Assumes nothing.
use Rattle.std.specs.Prelude.{◌≡◌, ℕ, ◌+◌, false, cond, ◌&&◌, List, length, nat_lt, Option}
use Rattle.orders.specs.declared.request.Life.{Life}
use Rattle.orders.specs.declared.entry.Entry.{Entry}
use Rattle.orders.specs.declared.order.Order.{Order}
use Rattle.orders.specs.declared.answer.Answer.{Answer}
use Rattle.orders.specs.declared.answer.Answer.TheVariants.{Entered}
use Rattle.orders.specs.Entries.{entered}
use Rattle.plain.specs.Rule.{with_remaining}
use Rattle.plain.specs.Book.{order, rests}
use Rattle.matching.specs.Weights.{Weight, held_weight}
use Rattle.shelf.specs.HeldGate.{is_full}

-- an order with what is left of an entry
abbrev pub left_of : Entry → ℕ → ℕ → Order
left_of e number left = with_remaining (order e number) left

-- what an order adds to the weight if it rests
abbrev pub resting_weight : Weight → Life → Order → ℕ
resting_weight w life o = cond (rests life && nat_lt 0 o.remaining) (w o) 0

-- the order lies in one more place, if it rests
pub record Laid (life : Life) (o : Order) (ps qs : List (Option Order)) : Type 0 where
  pub same_length : length qs ≡ length ps
  pub orders : is_full ps ≡ false → (w : Weight) → held_weight w qs ≡ resting_weight w life o + held_weight w ps

-- the answer to an entry of which so many tonnes are left after so many fills
abbrev pub entry_answer : Entry → (number count left : ℕ) → Answer
entry_answer e number count left = Entered (entered e number count left)
