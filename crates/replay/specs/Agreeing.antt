-- A claim held against lists of orders, by computing. Assumes nothing.
use Rattle.std.specs.Prelude.{ℕ, min, Bool, ◌&&◌, List, ◌==◌, nat_le}
use Rattle.orders.specs.declared.request.Side.TheVariants.{Buy, Sell}
use Rattle.orders.specs.declared.entry.Entry.{Entry}
use Rattle.orders.specs.declared.order.Order.{Order}
use Rattle.orders.specs.declared.order.Fill.{Fill}
use Rattle.plain.specs.Orders.{keep, total, within}
use Rattle.plain.specs.Book.{order, resting_price, entry_buyers, entry_sellers}
use Rattle.replay.specs.Lists.{capped}
use Rattle.replay.specs.Fills.{agrees}
use Rattle.replay.specs.Quotes.{best_quote, called_price}

-- an entry's fills with the orders in its reach
abbrev pub deals_with : Entry → (number reach : ℕ) → List Order → List Fill → Bool
deals_with e number reach os =
    agrees (resting_price e.side) (min e.quantity reach) (entry_buyers e.side (order e number) os) (entry_sellers e.side (order e number) os)

-- an entry's minimum and its fills, by the orders of the other side
abbrev pub entry_agrees : Entry → (number : ℕ) → List Order → List Fill → Bool
entry_agrees e number os fs =
    let near = keep (within e.side e.price) os in
    nat_le e.minimum (capped (total near)) && deals_with e number (capped (total near)) near fs

-- a call's price, volume and fills, by the orders of both sides
abbrev pub call_agrees : (price volume : ℕ) → List Order → List Order → List Fill → Bool
call_agrees price volume buys sells fs =
    let best = best_quote buys sells in
    (price == called_price best) && (volume == best.volume && agrees (λ _ _. price) volume (keep (within Sell price) buys) (keep (within Buy price) sells) fs)
