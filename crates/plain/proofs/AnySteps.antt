-- The price of a call, found among the steps in any sequence. Assumes nothing.
use Rattle.std.proofs.Common.{◌≡◌, ℕ, List, ◌∷◌, refl, arith}
use mathlib.Core.List.{Memᴰ}
use Rattle.std.specs.List.{AllByRecursion as All}
use Rattle.orders.specs.declared.order.Order.{Order}
use Rattle.plain.specs.Price.{first, best_price}
use Rattle.plain.proofs.Price.{AsGood, InRange, first_as_good, first_keeps, steps, best_as_good}

-- of two prices each as good as the other there is one
as_good_both : {dealt gap : ℕ → ℕ} (p q : ℕ) → AsGood dealt gap p q → AsGood dealt gap q p → p ≡ q
as_good_both p q h k = omega arith

-- the first of prices that have all the steps among them is the price of the call
pub first_of_any : (buys sells : List Order) (qs : List ℕ) → All InRange qs → All (λ q. Memᴰ q (1 ∷ qs)) (steps buys sells) → first buys sells 1 qs ≡ best_price buys sells
first_of_any buys sells qs range has =
    let p = first buys sells 1 qs in
    let low_high = first_keeps buys sells InRange 1 qs (omega arith) range in
    let among = first_keeps buys sells (λ q. Memᴰ q (1 ∷ qs)) 1 (steps buys sells) (Memᴰ.head refl) has in
    as_good_both p (best_price buys sells) (first_as_good buys sells 1 qs (best_price buys sells) among) (best_as_good buys sells p low_high.0 low_high.1)
