-- A call's tonnes dealt between the best of both sides, fill by fill. Assumes nothing.
use Rattle.std.specs.Prelude.{◌≡◌, ℕ, min, List, ◌∷◌, ◌++◌, length, drop, Some, None, Option}
use Rattle.orders.specs.declared.order.Order.{Order}
use Rattle.orders.specs.declared.order.Fill.{Fill}
use Rattle.plain.specs.Dealing.{fill, dealt}
use Rattle.plain.specs.Book.{Book, dealt_with}
use Rattle.lineup.specs.declared.state.State.{State}
use Rattle.lineup.specs.Lying.{Lies}
use Rattle.ranked.specs.ByTurns.{cut_by}

-- a book with other orders
abbrev pub holding : List Order → List Order → Book → Book
holding buys sells b = record { phase = b.phase; next = b.next; buys = buys; sells = sells }

-- the best buy and the best sell dealt the least of n tonnes and what remains of them
pub record Crossable (price n : ℕ) (b : Book) (places : List (Option Order)) (st : State) (f : Fill) : Type 0 where
  pub buy : Order
  pub sell : Order
  pub later_buys : List Order
  pub later_sells : List Order
  pub buys_are : b.buys ≡ buy ∷ later_buys
  pub sells_are : b.sells ≡ sell ∷ later_sells
  pub tonnes_are : f.quantity ≡ min (min n buy.remaining) (min n sell.remaining)
  pub fill_is : f ≡ fill (λ _ _. price) buy sell f.quantity
  pub lies : Lies places st (holding (cut_by f.quantity buy later_buys) (cut_by f.quantity sell later_sells) b)

abbrev pub CrossTaken : ℕ → ℕ → Book → List (Option Order) → State → Option Fill → Type 0
CrossTaken price n b places st None = min (length b.buys) (length b.sells) ≡ 0
CrossTaken price n b places st (Some f) = Crossable price n b places st f

-- what came of a call's fills at a price: the book, how many fills, and the fill list
pub record Crossed (price n : ℕ) (b : Book) (places : List (Option Order)) (st : State) (count : ℕ) (lent left : List Fill) : Type 0 where
  pub lies : Lies places st (dealt_with b.phase b.next (dealt (λ _ _. price) n b.buys b.sells) b)
  pub counted : count ≡ length (dealt (λ _ _. price) n b.buys b.sells)
  pub list : left ≡ dealt (λ _ _. price) n b.buys b.sells ++ drop (length (dealt (λ _ _. price) n b.buys b.sells)) lent
