-- A sweep up the prices of both sides' orders. Assumes nothing.
use Rattle.std.specs.Prelude.{◌≡◌, ℕ, ◌+◌, ◌-◌, ◌^◌, ◌<◌, ◌≤◌, min, cond, List, [], ◌∷◌, ◌++◌, reverse, length, Some, None, Option, nat_lt}
use Rattle.std.specs.List.{AllByRecursion}
use Rattle.orders.specs.declared.request.Side.{Side}
use Rattle.orders.specs.declared.request.Side.TheVariants.{Buy, Sell}
use Rattle.orders.specs.declared.order.Order.{Order}
use Rattle.plain.specs.Orders.{total}
use Rattle.plain.specs.Price.{volume, imbalance}
use Rattle.plain.specs.Book.{Book}
use Rattle.quotes.specs.declared.quote.Quote.{Quote}
use Rattle.quotes.specs.Quotes.{quoted, better}
use Rattle.lineup.specs.declared.sweep.Sweep.{Sweep}

-- no price, and nothing dealt
abbrev pub unquoted : Quote
unquoted = record { price = 0; volume = 0; imbalance = 0 }

-- what is dealt at the price of a sweep
abbrev pub quote_at : Sweep → Quote
quote_at w = quoted w.price w.demand w.supply

-- a sweep at a price, and the best of what it left
abbrev pub at : ℕ → Sweep → Sweep
at price w = record { left = w.left; price = price; demand = w.demand; supply = w.supply; best = better w.best (quote_at w) }

-- a sweep up to a price
abbrev pub raised : ℕ → Sweep → Sweep
raised price w = cond (nat_lt w.price price) (at price w) w

-- a sweep that passes a buy, or a sell, in numbers of 32 bits
abbrev pub buy_passed : Order → Sweep → Sweep
buy_passed x w =
    let v = raised (min (x.price + 1) (2 ^ 32 - 1)) w in
    record { left = v.left - 1; price = v.price; demand = v.demand - x.remaining; supply = v.supply; best = v.best }

abbrev pub sell_passed : Order → Sweep → Sweep
sell_passed y w =
    let v = raised y.price w in
    record { left = v.left; price = v.price; demand = v.demand; supply = min (v.supply + y.remaining) (2 ^ 32 - 1); best = v.best }

-- the best of the prices from 1 on, below a limit: 0 where none deals
pub record BestBelow (dealt gap : ℕ → ℕ) (limit : ℕ) (q : Quote) : Type 0 where
  pub most : (p : ℕ) → 1 ≤ p → p < limit → dealt p ≤ q.volume
  pub closest : (p : ℕ) → 1 ≤ p → p < limit → dealt p ≡ q.volume → q.imbalance ≤ gap p
  pub lowest : (p : ℕ) → 1 ≤ p → p < limit → dealt p ≡ q.volume → gap p ≡ q.imbalance → q.price ≤ p
  pub none : q.volume ≡ 0 → (q.price ≡ 0) × (q.imbalance ≡ 0)
  pub some : 1 ≤ q.volume → (1 ≤ q.price) × (q.price < limit) × (dealt q.price ≡ q.volume) × (gap q.price ≡ q.imbalance)

-- each order's price is no worse than those of the orders after it
abbrev pub NoWorse : Side → ℕ → ℕ → Type 0
NoWorse Buy p q = q ≤ p
NoWorse Sell p q = p ≤ q

abbrev pub BestFirst : Side → List Order → Type 0
BestFirst s [] = Unit {0}
BestFirst s (o ∷ os) = AllByRecursion (λ x. NoWorse s o.price x.price) os × BestFirst s os

-- a sweep with the buys below it, the others, the sells up to it, and the others, each list from the lowest price
pub record Swept (b : Book) (below above sold unsold : List Order) (w : Sweep) : Type 0 where
  pub buys_are : reverse b.buys ≡ below ++ above
  pub sells_are : b.sells ≡ sold ++ unsold
  pub left_is : w.left ≡ length above
  pub demand_is : w.demand ≡ total above
  pub supply_is : w.supply ≡ total sold
  pub low : 1 ≤ w.price
  pub high : w.price ≤ 100000
  pub below_under : AllByRecursion (λ o. o.price < w.price) below
  pub above_over : AllByRecursion (λ o. w.price ≤ o.price + 1) above
  pub sold_under : AllByRecursion (λ o. o.price ≤ w.price) sold
  pub unsold_over : AllByRecursion (λ o. w.price ≤ o.price) unsold
  pub buys_rise : BestFirst Sell above
  pub sells_rise : BestFirst Sell unsold
  pub sells_high : AllByRecursion (λ o. o.price ≤ 100000) unsold
  pub sells_fit : total b.sells < 2 ^ 32
  pub best_is : BestBelow (volume b.buys b.sells) (imbalance b.buys b.sells) w.price w.best

-- a sweep that has passed some sells
pub record SweptBy (b : Book) (sold unsold : List Order) (w : Sweep) : Type 0 where
  pub below : List Order
  pub above : List Order
  pub swept : Swept b below above sold unsold w

-- no buy that is left has a price below the limit
pub record PassedTo (limit : ℕ) (b : Book) (sold unsold : List Order) (w : Sweep) : Type 0 where
  pub below : List Order
  pub above : List Order
  pub swept : Swept b below above sold unsold w
  pub all : AllByRecursion (λ o. limit ≤ o.price) above

-- the lowest buy that is left, if its price is below a limit
abbrev pub NextBuy : ℕ → List Order → Option Order → Type 0
NextBuy limit above None = (x : Order) (later : List Order) → above ≡ x ∷ later → limit ≤ x.price
NextBuy limit above (Some x) = (later : List Order) × ((above ≡ x ∷ later) × (x.price < limit))
