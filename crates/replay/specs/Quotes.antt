-- What a call would deal at a price, and the best of the prices. Assumes nothing.
use Rattle.std.specs.Prelude.{ℕ, List, [], ◌∷◌, Some, None, Option}
use Rattle.orders.specs.declared.request.Side.{Side}
use Rattle.orders.specs.declared.request.Side.TheVariants.{Buy, Sell}
use Rattle.orders.specs.declared.order.Order.{Order}
use Rattle.plain.specs.Orders.{keep, total, within}
use Rattle.quotes.specs.declared.quote.Quote.{Quote}
use Rattle.quotes.specs.Quotes.{quoted, better}
pub use Rattle.quotes.specs.Quotes.{called_price}
use Rattle.quotes.specs.Steps.{step_of}
use Rattle.replay.specs.Lists.{capped}

module _ (buys sells : List Order) where
  -- the tonnes bought at a price or more, and sold at it or less
  abbrev pub bought : ℕ → ℕ
  bought p = capped (total (keep (within Sell p) buys))

  abbrev pub sold : ℕ → ℕ
  sold p = capped (total (keep (within Buy p) sells))

  abbrev pub quote_at : ℕ → Quote
  quote_at p = quoted p (bought p) (sold p)

  abbrev pub better_of : Quote → Option ℕ → Quote
  better_of best None = best
  better_of best (Some p) = better best (quote_at p)

  -- the best of a quote and those at the steps of a side's orders
  abbrev pub best_over : Side → Quote → List Order → Quote
  best_over side best [] = best
  best_over side best (o ∷ os) = best_over side (better_of best (step_of side o.price)) os

  abbrev pub best_quote : Quote
  best_quote = best_over Sell (best_over Buy (quote_at 1) buys) sells
