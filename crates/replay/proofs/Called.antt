-- The best quote of live orders is that at the price of their call. Assumes nothing.
use Rattle.std.proofs.Common.{◌≡◌, ℕ, ◌+◌, ◌-◌, ◌*◌, ◌≤◌, min, Bool, true, false, cond, ltb, List, [], ◌∷◌, ◌++◌, length, Some, None, sym, refl, ap, ◌∙◌, arith}
use Rattle.orders.specs.declared.request.Side.{Side}
use Rattle.orders.specs.declared.request.Side.TheVariants.{Buy, Sell}
use Rattle.orders.specs.declared.order.Order.{Order}
use Rattle.plain.specs.Orders.{keep, total, within}
use Rattle.plain.specs.Price.{volume, imbalance, preferred, first, buy_steps, sell_steps, best_price}
use Rattle.plain.specs.Sound.{AllLive}
use Rattle.plain.proofs.Kept.{total_keep}
use Rattle.quotes.specs.declared.quote.Quote.{Quote}
use Rattle.quotes.specs.Quotes.{preferred_to}
use Rattle.replay.specs.Lists.{capped}
use Rattle.replay.specs.Quotes.{quote_at, better_of, best_over, best_quote}

-- the tonnes of live orders fit a number of the program
total_high : (f : Order → Bool) (s : Side) (next : ℕ) (os : List Order) → AllLive s next os → total (keep f os) ≤ 50000 * length os
total_high f s next [] live = omega arith
total_high f s next (o ∷ os) live =
    let rest = total_high f s next os live.1 in
    let here = total_keep f o os in
    let own = live.0.no_more_than_entered in
    let high = live.0.quantity_high in
    grind arith

pub uncapped : (f : Order → Bool) (s : Side) (next : ℕ) (os : List Order) → AllLive s next os → length os ≤ 1024 → capped (total (keep f os)) ≡ total (keep f os)
uncapped f s next os live few = omega (arith, total_high f s next os live)

-- the prices at which the orders of a side change what is dealt
abbrev steps_of : Side → List Order → List ℕ
steps_of Buy os = buy_steps os
steps_of Sell os = sell_steps os

module _ (buys sells : List Order) where
  -- what a call deals at a price
  abbrev pub quoted_at : ℕ → Quote
  quoted_at p = record { price = p; volume = volume buys sells p; imbalance = imbalance buys sells p }

  first_more : (p q : ℕ) (qs : List ℕ) → first buys sells p (q ∷ qs) ≡ first buys sells (cond (preferred buys sells q p) q p) qs
  first_more p q qs = elim (preferred buys sells q p) as (λ t. cond t (first buys sells q qs) (first buys sells p qs) ≡ first buys sells (cond t q p) qs) [ true ↦ refl | false ↦ refl ]

  first_append : (p : ℕ) (qs rs : List ℕ) → first buys sells p (qs ++ rs) ≡ first buys sells (first buys sells p qs) rs
  first_append p [] rs = refl
  first_append p (q ∷ qs) rs = first_more p q (qs ++ rs) ∙ first_append (cond (preferred buys sells q p) q p) qs rs ∙ ap (λ x. first buys sells x rs) (sym (first_more p q qs))

  module _ (bought : (p : ℕ) → capped (total (keep (within Sell p) buys)) ≡ total (keep (within Sell p) buys)) (sold : (p : ℕ) → capped (total (keep (within Buy p) sells)) ≡ total (keep (within Buy p) sells)) where
    quote_is : (p : ℕ) → quote_at buys sells p ≡ quoted_at p
    quote_is p = λ i. record { price = p; volume = min (bought p i) (sold p i); imbalance = (bought p i - sold p i) + (sold p i - bought p i) }

    better_is : (p q : ℕ) → better_of buys sells (quoted_at p) (Some q) ≡ quoted_at (cond (preferred buys sells q p) q p)
    better_is p q =
        ap (λ x. cond (preferred_to x (quoted_at p)) x (quoted_at p)) (quote_is q) ∙
        elim (preferred buys sells q p) as (λ t. cond t (quoted_at q) (quoted_at p) ≡ quoted_at (cond t q p)) [ true ↦ refl | false ↦ refl ]

    -- one step more
    best_step : (s : Side) (os : List Order) (p q : ℕ) (qs : List ℕ) → ((r : ℕ) → best_over buys sells s (quoted_at r) os ≡ quoted_at (first buys sells r qs)) →
        best_over buys sells s (better_of buys sells (quoted_at p) (Some q)) os ≡ quoted_at (first buys sells p (q ∷ qs))
    best_step s os p q qs rest = ap (λ x. best_over buys sells s x os) (better_is p q) ∙ rest (cond (preferred buys sells q p) q p) ∙ ap quoted_at (sym (first_more p q qs))

    best_is : (s : Side) (os : List Order) (p : ℕ) → best_over buys sells s (quoted_at p) os ≡ quoted_at (first buys sells p (steps_of s os))
    best_is Buy [] p = refl
    best_is Sell [] p = refl
    best_is Buy (o ∷ os) p =
        elim (ltb o.price 100000) as (λ t. best_over buys sells Buy (better_of buys sells (quoted_at p) (cond t (Some (o.price + 1)) None)) os ≡ quoted_at (first buys sells p (cond t ((o.price + 1) ∷ buy_steps os) (buy_steps os)))) [
          | true ↦ best_step Buy os p (o.price + 1) (buy_steps os) (best_is Buy os)
          | false ↦ best_is Buy os p
        ]
    best_is Sell (o ∷ os) p = best_step Sell os p o.price (sell_steps os) (best_is Sell os)

    quote_best : best_quote buys sells ≡ quoted_at (best_price buys sells)
    quote_best =
        ap (λ x. best_over buys sells Sell (best_over buys sells Buy x buys) sells) (quote_is 1) ∙
        ap (λ x. best_over buys sells Sell x sells) (best_is Buy buys 1) ∙
        best_is Sell sells (first buys sells 1 (buy_steps buys)) ∙
        ap quoted_at (sym (first_append 1 (buy_steps buys) (sell_steps sells)))

pub best_quote_is : (next : ℕ) (buys sells : List Order) → AllLive Buy next buys → AllLive Sell next sells → length buys ≤ 1024 → length sells ≤ 1024 →
    best_quote buys sells ≡ quoted_at buys sells (best_price buys sells)
best_quote_is next buys sells live live' few few' =
    quote_best buys sells (λ p. uncapped (within Sell p) Buy next buys live few) (λ p. uncapped (within Buy p) Sell next sells live' few')
