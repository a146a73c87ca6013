-- When places and a state are those of a plain book. Assumes nothing.
use Rattle.std.specs.Prelude.{◌≡◌, ℕ, ◌-◌, ◌≤◌, true, List, ◌++◌, reverse, length, replicate, Some, None, Option}
use Rattle.orders.specs.declared.request.Side.{Side}
use Rattle.orders.specs.declared.request.Side.TheVariants.{Buy, Sell}
use Rattle.orders.specs.declared.order.Order.{Order}
use Rattle.orders.specs.declared.order.Phase.TheVariants.{Gathering}
use Rattle.plain.specs.Orders.{other, find}
use Rattle.plain.specs.Book.{Book, side, resting}
use Rattle.lineup.specs.declared.state.State.{State}
use Rattle.lineup.specs.declared.state.Spot.{Spot}
use Rattle.lineup.specs.Layout.{seen, held, Stood}

-- from the front, as a side sees it: the other side's orders, the worst first, then a gap, then its own, the best first
abbrev pub LiesAt : Side → List (Option Order) → ℕ → List Order → List Order → Type 0
LiesAt t places gap own others = seen t places ≡ reverse (held others) ++ (replicate gap None ++ held own)

abbrev pub count : Side → State → ℕ
count Buy s = s.buys
count Sell s = s.sells

-- the state of a book with no orders, that was asked nothing yet
abbrev pub vacant : ℕ → State
vacant n = record { phase = Gathering; next = 1; buys = 0; sells = 0; capacity = n; is_fresh = true }

-- a state but for the count of a side
pub record Recounted (t : Side) (n : ℕ) (s r : State) : Type 0 where
  pub own : count t r ≡ n
  pub others : count (other t) r ≡ count (other t) s
  pub capacity : r.capacity ≡ s.capacity
  pub phase : r.phase ≡ s.phase
  pub next : r.next ≡ s.next

-- where an order of a number rests
pub record Rests (n : ℕ) (s : State) (b : Book) (p : Spot) : Type 0 where
  pub stood : Stood n (s.capacity - count p.side s) (side p.side b) p.place p.order
  pub first : find n (resting b) ≡ Some p.order
  pub not_bought : p.side ≡ Sell → find n b.buys ≡ None

abbrev pub FoundIn : ℕ → State → Book → Option Spot → Type 0
FoundIn n s b None = find n (resting b) ≡ None
FoundIn n s b (Some p) = Rests n s b p

-- the places and the state are those of a plain book
pub record Lies (places : List (Option Order)) (s : State) (b : Book) : Type 0 where
  pub gap : ℕ
  pub laid : (t : Side) → LiesAt t places gap (side t b) (side (other t) b)
  pub counts : (t : Side) → count t s ≡ length (side t b)
  pub size : s.capacity ≡ length places
  pub small : s.capacity ≤ 1024
  pub phase_is : s.phase ≡ b.phase
  pub next_is : s.next ≡ b.next
