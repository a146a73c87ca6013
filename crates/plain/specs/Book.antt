-- The plain book: what every book means. Assumes nothing.
use Rattle.std.specs.Prelude.{ℕ, ◌+◌, ◌-◌, min, cond, ◌&&◌, List, [], ◌∷◌, ◌++◌, length, Some, None, Option, nat_lt}
use Rattle.orders.specs.declared.request.Side.{Side}
use Rattle.orders.specs.declared.request.Side.TheVariants.{Buy, Sell}
use Rattle.orders.specs.declared.entry.Entry.{Entry}
use Rattle.orders.specs.declared.request.Request.{Request}
use Rattle.orders.specs.declared.request.Request.TheVariants.{Enter, Withdraw, Call, Halt}
use Rattle.orders.specs.declared.order.Phase.{Phase}
use Rattle.orders.specs.declared.order.Phase.TheVariants.{Gathering, Dealing}
use Rattle.orders.specs.declared.order.Order.{Order}
use Rattle.orders.specs.declared.order.Fill.{Fill}
use Rattle.orders.specs.declared.answer.Answer.{Answer}
use Rattle.orders.specs.declared.answer.Answer.TheVariants.{Entered, Withdrawn, Called, Halted}
pub use Rattle.orders.specs.Sides.{rests}
pub use Rattle.orders.specs.Entries.{order}
use Rattle.plain.specs.Rule.{Rule, with_remaining}
use Rattle.plain.specs.Orders.{keep, total, placed, find, without, within, other}
use Rattle.plain.specs.Dealing.{Pricing, dealt, tonnes, settled}
use Rattle.plain.specs.Price.{call_price, call_volume}

-- each side's orders stand in the sequence of the rule
pub record Book : Type 0 where
  pub phase : Phase
  pub next : ℕ
  pub buys : List Order
  pub sells : List Order

-- a book that was asked nothing yet
abbrev pub fresh : Book
fresh = record { phase = Gathering; next = 1; buys = []; sells = [] }

-- the orders of a side
abbrev pub side : Side → Book → List Order
side Buy b = b.buys
side Sell b = b.sells

-- all orders that rest, the buys first
abbrev pub resting : Book → List Order
resting b = b.buys ++ b.sells

-- the orders in an entry's reach, and their tonnes
abbrev pub in_reach : Entry → Book → List Order
in_reach e b = keep (within e.side e.price) (side (other e.side) b)

-- the reach of an entry: what remains of them
abbrev pub reach : Entry → Book → ℕ
reach e b = total (in_reach e b)

-- what a request is answered, its fills, and the book after it
pub record Reply : Type 0 where
  pub answer : Answer
  pub fills : List Fill
  pub book : Book

-- an entry

-- a fill of an entry has the price of the resting order, the sell's for a buy and the buy's for a sell
abbrev pub resting_price : Side → Pricing
resting_price Buy b s = s.price
resting_price Sell b s = b.price

-- who buys and who sells: the entry's order alone on its own side, those in its reach on the other
abbrev pub entry_buyers : Side → Order → List Order → List Order
entry_buyers Buy o os = o ∷ []
entry_buyers Sell o os = os

-- the other half
abbrev pub entry_sellers : Side → Order → List Order → List Order
entry_sellers Buy o os = os
entry_sellers Sell o os = o ∷ []

-- the fills of an entry: none while gathering; while dealing the smaller of its quantity and its reach is dealt
abbrev pub entry_fills : Phase → Entry → Book → List Fill
entry_fills Gathering e b = []
entry_fills Dealing e b =
    dealt (resting_price e.side) (min e.quantity (reach e b))
    (entry_buyers e.side (order e b.next) (in_reach e b))
    (entry_sellers e.side (order e b.next) (in_reach e b))

-- an order put in its place on its side
abbrev pub put : Rule → Side → Order → Book → Book
put rule Buy o b = record { phase = b.phase; next = b.next; buys = placed rule o b.buys; sells = b.sells }
put rule Sell o b = record { phase = b.phase; next = b.next; buys = b.buys; sells = placed rule o b.sells }

-- the book after fills
abbrev pub dealt_with : Phase → ℕ → List Fill → Book → Book
dealt_with phase next fs b = record { phase = phase; next = next; buys = settled Buy fs b.buys; sells = settled Sell fs b.sells }

-- the reply to an entry with its fills: what they leave of it rests, if its life says so and something is left, and else is withdrawn
abbrev pub entered : Rule → Entry → Book → List Fill → Reply
entered rule e b fs =
    let left = e.quantity - tonnes fs in
    let stays = rests e.life in
    let dealt = dealt_with b.phase (b.next + 1) fs b in
    record {
      answer = Entered (record { number = b.next; fills = length fs; dealt = tonnes fs; resting = cond stays left 0; withdrawn = cond stays 0 left });
      fills = fs;
      book = cond (stays && nat_lt 0 left) (put rule e.side (with_remaining (order e b.next) left) dealt) dealt;
    }

-- a cancel

-- the reply to a cancel of what was found under the number
abbrev pub withdrawn : ℕ → Book → Option Order → Reply
withdrawn n b None = record { answer = Withdrawn (record { number = n; side = Buy; tonnes = 0 }); fills = []; book = b }
withdrawn n b (Some o) = record {
  answer = Withdrawn (record { number = n; side = o.side; tonnes = o.remaining });
  fills = [];
  book = record { phase = b.phase; next = b.next; buys = without n b.buys; sells = without n b.sells };
}

-- a call

-- the price of a call
abbrev pub price : Book → ℕ
price b = call_price b.buys b.sells

-- who buys at it: the buys at the price or more
abbrev pub call_buyers : Book → List Order
call_buyers b = keep (within Sell (price b)) b.buys

-- who sells: the sells at the price or less
abbrev pub call_sellers : Book → List Order
call_sellers b = keep (within Buy (price b)) b.sells

-- the fills of a call, all at its price
abbrev pub call_fills : Book → List Fill
call_fills b = dealt (λ _ _. price b) (call_volume b.buys b.sells) (call_buyers b) (call_sellers b)

-- the reply to a request that is admitted

-- what each request is answered, its fills, and the book after it
abbrev pub reply : Rule → Book → Request → Reply
reply rule b (Enter e) = entered rule e b (entry_fills b.phase e b)
reply rule b (Withdraw c) = withdrawn c.number b (find c.number (resting b))
reply rule b Call = record {
  answer = Called (record { price = price b; volume = call_volume b.buys b.sells; fills = length (call_fills b) });
  fills = call_fills b;
  book = dealt_with Dealing b.next (call_fills b) b;
}
reply rule b Halt = record { answer = Halted; fills = []; book = record { phase = Gathering; next = b.next; buys = b.buys; sells = b.sells } }

-- requests that were admitted, the oldest first
abbrev pub Tape : Type 0
Tape = List Request

-- the book after a tape that was served from a book on
abbrev pub from : Rule → Book → Tape → Book
from rule b [] = b
from rule b (q ∷ qs) = from rule (reply rule b q).book qs

-- the plain book after a tape
abbrev pub after : Rule → Tape → Book
after rule t = from rule fresh t
