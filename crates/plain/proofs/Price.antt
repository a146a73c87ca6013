-- The price of a call is the best of all prices. Assumes nothing.
use Rattle.std.proofs.Common.{◌≡◌, ℕ, zero, suc, ◌+◌, ◌<◌, ◌≤◌, Bool, true, false, ◌&&◌, ◌||◌, eqb, ltb, leb, ◌⊎◌, List, [], ◌∷◌, ◌++◌, refl, ap, inl, inr, arith}
use mathlib.Core.List.Memᴰ
use mathlib.Core.List.{Memᴰ}
use Rattle.std.specs.List.{AllByRecursion as All}
use Rattle.std.proofs.ByRecursion.{All-append}
use Rattle.std.proofs.lemmas.Bool.{cond_both, cond-true, lt-ltb, ltb-true}
use Rattle.std.proofs.lemmas.Bool.Decides.{nat_tests}
use Rattle.orders.specs.declared.request.Side.TheVariants.{Sell}
use Rattle.orders.specs.declared.order.Order.{Order}
use Rattle.plain.specs.Price.{volume, imbalance, BestPrice, preferred, first, sell_steps, buy_steps, best_price}
use Rattle.plain.specs.Sound.{AllLive}
use Rattle.plain.proofs.Kept.{same_or_differ}

-- p is as good a price as q, or better
pub record AsGood (dealt gap : ℕ → ℕ) (p q : ℕ) : Type 0 where
  pub most : dealt q ≤ dealt p
  pub closest : dealt q ≡ dealt p → gap p ≤ gap q
  pub lowest : dealt q ≡ dealt p → gap q ≡ gap p → p ≤ q

-- whether p is taken before q
abbrev before : (dealt gap : ℕ → ℕ) → ℕ → ℕ → Bool
before dealt gap p q = ltb (dealt q) (dealt p) || (eqb (dealt q) (dealt p) && (ltb (gap p) (gap q) || (eqb (gap p) (gap q) && ltb p q)))

module _ {dealt gap : ℕ → ℕ} where
  as_good_when_alike : {p q : ℕ} → dealt p ≡ dealt q → gap p ≡ gap q → p ≤ q → AsGood dealt gap p q
  as_good_when_alike e f h = record { most = omega arith; closest = λ _. omega arith; lowest = λ _ _. h }

  as_good_onward : {p q r : ℕ} → AsGood dealt gap p q → AsGood dealt gap q r → AsGood dealt gap p r
  as_good_onward h k = record { most = omega arith; closest = omega arith; lowest = omega arith }

  as_good_when_before : {p q : ℕ} → before dealt gap p q ≡ true → AsGood dealt gap p q
  as_good_when_before h = record { most = grind (arith, nat_tests); closest = grind (arith, nat_tests); lowest = grind (arith, nat_tests) }

  as_good_unless_before : {p q : ℕ} → before dealt gap q p ≡ false → AsGood dealt gap p q
  as_good_unless_before h = record { most = grind (arith, nat_tests); closest = grind (arith, nat_tests); lowest = grind (arith, nat_tests) }

-- an order makes a step of its side
buy_is_step : {o : Order} {os : List Order} → Memᴰ o os → o.price < 100000 → Memᴰ (o.price + 1) (buy_steps os)
buy_is_step {o} (Memᴰ.head {x} {xs} e) h =
    let same : o.price ≡ x.price = cc in
    rw (cond-true (ltb x.price 100000) ((x.price + 1) ∷ buy_steps xs) (buy_steps xs) (lt-ltb x.price 100000 (omega arith)))
    (Memᴰ.head (ap (λ n. n + 1) same))
buy_is_step {o} (Memᴰ.tail {x} {xs} m) h =
    cond_both (ltb x.price 100000) ((x.price + 1) ∷ buy_steps xs) (buy_steps xs) (λ steps. Memᴰ (o.price + 1) steps)
    (λ _. Memᴰ.tail (buy_is_step m h)) (λ _. buy_is_step m h)

sell_is_step : {o : Order} {os : List Order} → Memᴰ o os → Memᴰ o.price (sell_steps os)
sell_is_step (Memᴰ.head e) = Memᴰ.head (cc)
sell_is_step (Memᴰ.tail m) = Memᴰ.tail (sell_is_step m)

abbrev pub InRange : ℕ → Type 0
InRange p = (1 ≤ p) × (p ≤ 100000)

buy_steps_in_range : (os : List Order) → All InRange (buy_steps os)
buy_steps_in_range [] = tt
buy_steps_in_range (o ∷ os) =
    cond_both (ltb o.price 100000) ((o.price + 1) ∷ buy_steps os) (buy_steps os) (All InRange)
    (λ t. (omega (arith, ltb-true o.price 100000 t), buy_steps_in_range os)) (λ _. buy_steps_in_range os)

sell_steps_in_range : (next : ℕ) (os : List Order) → AllLive Sell next os → All InRange (sell_steps os)
sell_steps_in_range next [] live = tt
sell_steps_in_range next (o ∷ os) live = ((live.0.price_low, live.0.price_high), sell_steps_in_range next os live.1)

-- an order stops or starts counting between p and p + 1
demand_falls_after : (p k : ℕ) → (leb p k ≡ leb (suc p) k → ⊥) → k ≡ p
demand_falls_after p k d = grind (arith, nat_tests)

supply_grows_at : (p k : ℕ) → (leb k p ≡ leb k (suc p) → ⊥) → suc p ≡ k
supply_grows_at p k d = grind (arith, nat_tests)

module _ (buys sells : List Order) where
  -- as good a price for these orders
  abbrev pub Here : ℕ → ℕ → Type 0
  Here = AsGood (volume buys sells) (imbalance buys sells)

  -- the first of some prices is as good as each of them
  pub first_as_good : (p : ℕ) (qs : List ℕ) (x : ℕ) → Memᴰ x (p ∷ qs) → Here (first buys sells p qs) x
  first_as_good p [] x m = rw (Memᴰ.eq_of_singleton m) (as_good_when_alike refl refl (omega arith))
  first_as_good p (q ∷ qs) x m =
      cond_both (preferred buys sells q p) (first buys sells q qs) (first buys sells p qs) (λ w. Here w x)
      (λ t. elim (Memᴰ.cases_cons m) [
        | inl e ↦ rw e (as_good_onward (first_as_good q qs q (Memᴰ.head refl)) (as_good_when_before t))
        | inr n ↦ first_as_good q qs x n
      ])
      (λ t. elim (Memᴰ.cases_cons m) [
        | inl e ↦ first_as_good p qs x (Memᴰ.head e)
        | inr n ↦ elim (Memᴰ.cases_cons n) [
          | inl e ↦ rw e (as_good_onward (first_as_good p qs p (Memᴰ.head refl)) (as_good_unless_before t))
          | inr k ↦ first_as_good p qs x (Memᴰ.tail k)
        ]
      ])

  pub first_keeps : (P : ℕ → Type 0) (p : ℕ) (qs : List ℕ) → P p → All P qs → P (first buys sells p qs)
  first_keeps P p [] h hs = h
  first_keeps P p (q ∷ qs) h hs =
      cond_both (preferred buys sells q p) (first buys sells q qs) (first buys sells p qs) P (λ _. first_keeps P q qs hs.0 hs.1)
      (λ _. first_keeps P p qs h hs.1)

  abbrev pub steps : List ℕ
  steps = buy_steps buys ++ sell_steps sells

  -- a price at which neither demand nor supply changes is like the one below it
  step_or_alike : (p : ℕ) → suc p ≤ 100000 → Memᴰ (suc p) steps ⊎ Here p (suc p)
  step_or_alike p h =
      elim (same_or_differ (λ o. leb p o.price) (λ o. leb (suc p) o.price) buys) [
        | inr d ↦ let at = demand_falls_after p d.0.price d.2 in
            inl (Memᴰ.append_left (sell_steps sells) (Memᴰ.cast (omega arith) (buy_is_step d.1 (omega arith))))
        | inl e ↦ elim (same_or_differ (λ o. leb o.price p) (λ o. leb o.price (suc p)) sells) [
          | inr d ↦ inl (Memᴰ.append_right (buy_steps buys) (Memᴰ.cast (supply_grows_at p d.0.price d.2) (sell_is_step d.1)))
          | inl f ↦ inr (as_good_when_alike (omega arith) (omega arith) (omega arith))
        ]
      ]

  -- from a price down to the step at or below it nothing changes
  pub best_as_good : (q : ℕ) → 1 ≤ q → q ≤ 100000 → Here (best_price buys sells) q
  best_as_good zero low high = absurd (omega arith)
  best_as_good (suc zero) low high = first_as_good 1 steps 1 (Memᴰ.head refl)
  best_as_good (suc (suc p)) low high =
      elim (step_or_alike (suc p) high) [
        | inl m ↦ first_as_good 1 steps (suc (suc p)) (Memᴰ.tail m)
        | inr k ↦ as_good_onward (best_as_good (suc p) (omega arith) (omega arith)) k
      ]

pub best_price_is_best : (next : ℕ) (buys sells : List Order) → AllLive Sell next sells → BestPrice buys sells (best_price buys sells)
best_price_is_best next buys sells live =
    let range = first_keeps buys sells InRange 1 (steps buys sells) (omega arith)
    (All-append InRange (buy_steps buys) (sell_steps sells) (buy_steps_in_range buys) (sell_steps_in_range next sells live)) in
    record {
      low = range.0;
      high = range.1;
      most = λ q l h. (best_as_good buys sells q l h).most;
      closest = λ q l h. (best_as_good buys sells q l h).closest;
      lowest = λ q l h. (best_as_good buys sells q l h).lowest;
    }
