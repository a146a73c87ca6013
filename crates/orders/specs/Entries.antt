-- What an entry asks for, and what it comes to. Assumes nothing.
use Rattle.std.specs.Prelude.{ℕ, ◌-◌, min, Bool, false, cond, not, ◌||◌, nat_lt}
use Rattle.orders.specs.declared.entry.Entry.{Entry}
use Rattle.orders.specs.declared.order.Order.{Order}
use Rattle.orders.specs.declared.order.Phase.{Phase}
use Rattle.orders.specs.declared.order.Phase.TheVariants.{Gathering, Dealing}
use Rattle.orders.specs.declared.request.Side.{Side}
use Rattle.orders.specs.declared.request.Side.TheVariants.{Buy, Sell}
use Rattle.orders.specs.declared.order.Fill.{Fill}
use Rattle.orders.specs.declared.answer.Entered.{Entered}
use Rattle.orders.specs.Sides.{rests}

-- an entry as an order with a number, all of it remaining
abbrev pub order : Entry → ℕ → Order
order e n = record { number = n; member = e.member; side = e.side; price = e.price; quantity = e.quantity; remaining = e.quantity }

-- an entry comes too early: it states a minimum or is to be killed, and nothing deals yet
abbrev pub early : Phase → Entry → Bool
early Gathering e = nat_lt 0 e.minimum || not (rests e.life)
early Dealing e = false

-- a fill of n tonnes between a buy and a sell
abbrev pub fill_at : ℕ → Order → Order → ℕ → Fill
fill_at price b s n = record { buy = b.number; sell = s.number; buyer = b.member; seller = s.member; price = price; quantity = n }

-- the fill of an order that comes on a side with one that rests, at the price of that one
abbrev pub taken : Side → Order → Order → ℕ → Fill
taken Buy o x n = fill_at x.price o x n
taken Sell o x n = fill_at x.price x o n

-- a count as an answer has it: one past the largest number stays there
abbrev pub counted : ℕ → ℕ
counted n = min n 4294967295

-- the answer to an entry of which so many tonnes are left after so many fills
abbrev pub entered : Entry → (number fills left : ℕ) → Entered
entered e number fills left =
    record { number = number; fills = fills; dealt = e.quantity - left; resting = cond (rests e.life) left 0; withdrawn = cond (rests e.life) 0 left }
