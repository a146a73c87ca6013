-- The best quote over the places is that at the price of a call. Assumes nothing.
use Rattle.std.proofs.Common.{◌≡◌, ℕ, zero, suc, ◌+◌, ◌-◌, ◌*◌, ◌<◌, ◌≤◌, min, Bool, true, false, cond, eqb, ltb, leb, List, [], ◌∷◌, length, Some, None, Option, sym, refl, ap, ◌∙◌, subst, arith, length-append}
use mathlib.Core.List.{Memᴰ}
use Rattle.std.specs.List.{AllByRecursion as All}
use Rattle.std.proofs.ByRecursion.{All-append}
use Rattle.std.proofs.lemmas.Bool.{cond_both, cond-true, ltb-true}
use Rattle.orders.specs.declared.request.Side.{Side}
use Rattle.orders.specs.declared.request.Side.TheVariants.{Buy, Sell}
use Rattle.orders.specs.declared.order.Order.{Order}
use Rattle.plain.specs.Rule.{Rule}
use Rattle.plain.specs.Orders.{keep, total}
use Rattle.plain.specs.Price.{demand, supply, volume, imbalance, preferred, first, buy_steps, sell_steps, best_price, call_volume, call_price}
use Rattle.plain.specs.Book.{Book, resting}
use Rattle.plain.specs.Sound.{AllLive, Sound}
use Rattle.plain.proofs.Members.{live_one}
use Rattle.plain.proofs.Price.{InRange}
use Rattle.plain.proofs.AnySteps.{first_of_any}
use Rattle.ranking.specs.Search.{Holds}
use Rattle.matching.specs.Weights.{SameOrders}
use Rattle.quotes.specs.declared.quote.Quote.{Quote}
use Rattle.quotes.specs.Quotes.{preferred_to, called_price}
use Rattle.quotes.specs.Steps.{step_of}
use Rattle.matching.specs.Scans.{opposite, tonnes_if}
use Rattle.matching.specs.Quotes.{bought, sold, quote_at, step_at, better_of, best_over, best_quote}
use Rattle.matching.proofs.Opposite.{opposite_weight}
use Rattle.matching.proofs.OnSide.{HeldAt, side_live, held_on_side, rests_held}

-- the steps of some places
abbrev join_step : Option ℕ → List ℕ → List ℕ
join_step None ps = ps
join_step (Some p) ps = p ∷ ps

abbrev steps_in : List (Option Order) → List ℕ
steps_in [] = []
steps_in (p ∷ ps) = join_step (step_at p) (steps_in ps)

step_range : (s : Side) (p : ℕ) (qs : List ℕ) → InRange p → All InRange qs → All InRange (join_step (step_of s p) qs)
step_range Buy p qs in-range rest =
    cond_both (ltb p 100000) (Some (p + 1)) None (λ st. All InRange (join_step st qs)) (λ t. (omega (arith, ltb-true p 100000 t), rest)) (λ _. rest)
step_range Sell p qs in-range rest = (in-range, rest)

steps_range : (rs : List (Option Order)) → ((i : ℕ) → i < length rs → (y : Order) → Holds rs i y → InRange y.price) → All InRange (steps_in rs)
steps_range [] h = tt
steps_range (None ∷ rs) h = steps_range rs (λ i lt. h (suc i) (omega arith))
steps_range (Some o ∷ rs) h = step_range o.side o.price (steps_in rs) (h 0 (omega arith) o refl) (steps_range rs (λ i lt. h (suc i) (omega arith)))

join_later : (st : Option ℕ) {q : ℕ} {qs : List ℕ} → Memᴰ q qs → Memᴰ q (join_step st qs)
join_later None m = m
join_later (Some p) m = Memᴰ.tail m

step_there : (rs : List (Option Order)) (i : ℕ) (y : Order) (q : ℕ) → i < length rs → Holds rs i y → step_of y.side y.price ≡ Some q → Memᴰ q (steps_in rs)
step_there [] i y q lt holds e = absurd (omega arith)
step_there (r ∷ rs) zero y q lt holds e = subst (λ st. Memᴰ q (join_step st (steps_in rs))) (sym (ap step_at holds ∙ e)) (Memᴰ.head refl)
step_there (r ∷ rs) (suc i) y q lt holds e = join_later (step_at r) (step_there rs i y q (omega arith) holds e)

-- an order of a side in a place
abbrev HeldOn : List (Option Order) → Side → Order → Type 0
HeldOn ps t o = HeldAt ps o × (o.side ≡ t)

buy_steps_there : (ps : List (Option Order)) (os : List Order) → ((o : Order) → Memᴰ o os → HeldOn ps Buy o) → All (λ q. Memᴰ q (1 ∷ steps_in ps)) (buy_steps os)
buy_steps_there ps [] h = tt
buy_steps_there ps (o ∷ os) h =
    let here = h o (Memᴰ.head refl) in
    let rest = buy_steps_there ps os (λ x m. h x (Memᴰ.tail m)) in
    cond_both (ltb o.price 100000) ((o.price + 1) ∷ buy_steps os) (buy_steps os) (All (λ q. Memᴰ q (1 ∷ steps_in ps)))
    (λ t. (
      Memᴰ.tail (step_there ps here.0.0 o (o.price + 1) here.0.1 here.0.2
          (ap (λ s. step_of s o.price) here.1 ∙ cond-true (ltb o.price 100000) (Some (o.price + 1)) None t)),
      rest,
    ))
    (λ _. rest)

sell_steps_there : (ps : List (Option Order)) (os : List Order) → ((o : Order) → Memᴰ o os → HeldOn ps Sell o) → All (λ q. Memᴰ q (1 ∷ steps_in ps)) (sell_steps os)
sell_steps_there ps [] h = tt
sell_steps_there ps (o ∷ os) h =
    let here = h o (Memᴰ.head refl) in (
      Memᴰ.tail (step_there ps here.0.0 o o.price here.0.1 here.0.2 (ap (λ s. step_of s o.price) here.1)),
      sell_steps_there ps os (λ x m. h x (Memᴰ.tail m)),
    )

total_high : (t : Side) (next : ℕ) (f : Order → Bool) (xs : List Order) → AllLive t next xs → total (keep f xs) ≤ 50000 * length xs
total_high t next f [] live = omega arith
total_high t next f (x ∷ xs) live =
    let rest = total_high t next f xs live.1 in
    let one = live.0 in
    cond_both (f x) (x ∷ keep f xs) (keep f xs) (λ ys. total ys ≤ 50000 * length (x ∷ xs)) (λ _. omega (arith, one.no_more_than_entered, one.quantity_high)) (λ _. omega arith)

module _ {rule : Rule} (ps : List (Option Order)) (b : Book) (sound : Sound rule b) (orders : SameOrders ps b) (few : length (resting b) ≤ 1024) where
  bought_is : (p : ℕ) → bought ps p ≡ demand b.buys b.sells p
  bought_is p =
      omega (
        arith,
        orders (tonnes_if (opposite Sell p)),
        opposite_weight b sound Sell p,
        total_high Buy b.next (λ o. leb p o.price) b.buys sound.buys_live,
        length-append b.buys b.sells,
      )

  sold_is : (p : ℕ) → sold ps p ≡ supply b.buys b.sells p
  sold_is p =
      omega (
        arith,
        orders (tonnes_if (opposite Buy p)),
        opposite_weight b sound Buy p,
        total_high Sell b.next (λ o. leb o.price p) b.sells sound.sells_live,
        length-append b.buys b.sells,
      )

  volume_is : (p : ℕ) → (quote_at ps p).volume ≡ volume b.buys b.sells p
  volume_is p = λ i. min (bought_is p i) (sold_is p i)

  imbalance_is : (p : ℕ) → (quote_at ps p).imbalance ≡ imbalance b.buys b.sells p
  imbalance_is p = λ i. (bought_is p i - sold_is p i) + (sold_is p i - bought_is p i)

  preferred_is : (p q : ℕ) → preferred_to (quote_at ps p) (quote_at ps q) ≡ preferred b.buys b.sells p q
  preferred_is p q =
      λ i.
      preferred_to (record { price = p; volume = volume_is p i; imbalance = imbalance_is p i }) (record { price = q; volume = volume_is q i; imbalance = imbalance_is q i })

  best_over_lem : (p : ℕ) (rs : List (Option Order)) → best_over ps (quote_at ps p) rs ≡ quote_at ps (first b.buys b.sells p (steps_in rs))
  best_over_lem p [] = refl
  best_over_lem p (r ∷ rs) =
      elim (step_at r) as (λ st. best_over ps (better_of ps (quote_at ps p) st) rs ≡ quote_at ps (first b.buys b.sells p (join_step st (steps_in rs)))) [
        | None ↦ best_over_lem p rs
        | Some q ↦
            ap (λ t. best_over ps (cond t (quote_at ps q) (quote_at ps p)) rs) (preferred_is q p) ∙
            elim (preferred b.buys b.sells q p) as
            (λ t. best_over ps (cond t (quote_at ps q) (quote_at ps p)) rs ≡ quote_at ps (cond t (first b.buys b.sells q (steps_in rs)) (first b.buys b.sells p (steps_in rs)))) [
              | true ↦ best_over_lem q rs
              | false ↦ best_over_lem p rs
            ]
      ]

  held_range : (i : ℕ) → i < length ps → (y : Order) → Holds ps i y → InRange y.price
  held_range i lt y holds =
      let live = live_one y.side b.next _ (side_live b sound y.side) (held_on_side ps b sound orders i y lt holds) in
      (live.price_low, live.price_high)

  price_is : first b.buys b.sells 1 (steps_in ps) ≡ best_price b.buys b.sells
  price_is =
      first_of_any b.buys b.sells (steps_in ps) (steps_range ps held_range)
      (All-append (λ q. Memᴰ q (1 ∷ steps_in ps)) (buy_steps b.buys) (sell_steps b.sells)
      (buy_steps_there ps b.buys (λ o m. (rests_held ps b sound orders Buy o m, (live_one Buy b.next b.buys sound.buys_live m).of_side)))
      (sell_steps_there ps b.sells (λ o m. (rests_held ps b sound orders Sell o m, (live_one Sell b.next b.sells sound.sells_live m).of_side))))

  best_is : best_quote ps ≡ quote_at ps (best_price b.buys b.sells)
  best_is = best_over_lem 1 ps ∙ ap (quote_at ps) price_is

  pub called_volume : (best_quote ps).volume ≡ call_volume b.buys b.sells
  called_volume = ap (λ (q : Quote). q.volume) best_is ∙ volume_is (best_price b.buys b.sells)

  pub called_price_lem : called_price (best_quote ps) ≡ call_price b.buys b.sells
  called_price_lem =
      ap (λ n. cond (eqb n 0) 0 (best_quote ps).price) called_volume ∙
      ap (λ (q : Quote). cond (eqb (call_volume b.buys b.sells) 0) 0 q.price) best_is
