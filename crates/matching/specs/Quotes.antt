-- What a call would deal at a price, by the orders held, and the best of the prices. Assumes nothing.
use Rattle.std.specs.Prelude.{ℕ, List, [], ◌∷◌, Some, None, Option}
use Rattle.orders.specs.declared.request.Side.TheVariants.{Buy, Sell}
use Rattle.orders.specs.declared.order.Order.{Order}
use Rattle.quotes.specs.declared.quote.Quote.{Quote}
use Rattle.quotes.specs.Quotes.{quoted, better}
use Rattle.quotes.specs.Steps.{step_of}
use Rattle.matching.specs.Weights.{held_weight, capped}
use Rattle.matching.specs.Scans.{opposite, tonnes_if}

-- the tonnes bought at a price or more, and sold at it or less
abbrev pub bought : List (Option Order) → ℕ → ℕ
bought ps p = capped (held_weight (tonnes_if (opposite Sell p)) ps)

abbrev pub sold : List (Option Order) → ℕ → ℕ
sold ps p = capped (held_weight (tonnes_if (opposite Buy p)) ps)

abbrev pub quote_at : List (Option Order) → ℕ → Quote
quote_at ps p = quoted p (bought ps p) (sold ps p)

-- the price from which the order in a place changes what is dealt
abbrev pub step_at : Option Order → Option ℕ
step_at None = None
step_at (Some o) = step_of o.side o.price

abbrev pub better_of : List (Option Order) → Quote → Option ℕ → Quote
better_of ps best None = best
better_of ps best (Some p) = better best (quote_at ps p)

-- the best of a quote and those at the steps of some places
abbrev pub best_over : List (Option Order) → Quote → List (Option Order) → Quote
best_over ps best [] = best
best_over ps best (q ∷ qs) = best_over ps (better_of ps best (step_at q)) qs

abbrev pub best_quote : List (Option Order) → Quote
best_quote ps = best_over ps (quote_at ps 1) ps
