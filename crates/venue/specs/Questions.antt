-- What the questions to a venue answer, by its set-up and the tape that it stands after. Assumes nothing.
use Rattle.std.specs.Prelude.{◌≡◌, ℕ, zero, suc, Bool, true, false, cond, List, [], ◌∷◌, Some, None, Option, nat_le}
use Rattle.orders.specs.declared.request.Side.{Side}
use Rattle.orders.specs.declared.order.Order.{Order}
use Rattle.orders.specs.declared.order.Phase.{Phase}
use Rattle.plain.specs.Book.{Book, Tape, side}
use Rattle.venue.specs.declared.question.Question.{Question}
use Rattle.venue.specs.declared.question.Question.TheVariants.{Capacity, CurrentPhase, NextNumber, IsFresh, Height, OrderAt}
use Rattle.venue.specs.declared.question.Told.{Told}
use Rattle.venue.specs.declared.question.Told.TheVariants.{Capacity as ToldCapacity, CurrentPhase as ToldPhase, NextNumber as ToldNext, IsFresh as ToldFresh, Height as ToldHeight, OrderAt as ToldOrder}
use Rattle.venue.specs.Meaning.{Setup, book_at}

-- an answer that depends on the set-up and the tape
abbrev pub Ask : Type 0 → Type 0
Ask A = Setup → Tape → A

-- the answer is right for each tape that the venue can stand after
abbrev pub Tells : {A : Type 0} → Setup → (Tape → Type 0) → Ask A → A → Type 0
Tells v stands asked r = (t : Tape) → stands t → r ≡ asked v t

-- the most orders that rest at a time
abbrev pub capacity_of : Ask ℕ
capacity_of v t = v.capacity

abbrev pub phase_of : Ask Phase
phase_of v t = (book_at v t).phase

-- the number that the next entry gets, if any are left
abbrev pub next_number : Book → Option ℕ
next_number b = cond (nat_le b.next 999999) (Some b.next) None

abbrev pub next_of : Ask (Option ℕ)
next_of v t = next_number (book_at v t)

-- whether nothing was admitted yet
abbrev pub is_empty : Tape → Bool
is_empty [] = true
is_empty (q ∷ qs) = false

abbrev pub fresh_of : Ask Bool
fresh_of v t = is_empty t

-- the order of rank k in a list, from 1
abbrev pub ranked : ℕ → List Order → Option Order
ranked k [] = None
ranked zero (o ∷ os) = None
ranked (suc zero) (o ∷ os) = Some o
ranked (suc (suc k)) (o ∷ os) = ranked (suc k) os

abbrev pub ranked_of : Side → ℕ → Ask (Option Order)
ranked_of s k v t = ranked k (side s (book_at v t))

-- what any question answers
abbrev pub told : Question → Ask Told
told Capacity v t = ToldCapacity v.capacity
told CurrentPhase v t = ToldPhase (phase_of v t)
told NextNumber v t = ToldNext (next_of v t)
told IsFresh v t = ToldFresh (fresh_of v t)
told Height v t = ToldHeight v.height
told (OrderAt s k) v t = ToldOrder (ranked_of s k v t)
