-- What the orders of a list weigh, by any weight. Two lists that weigh the same by every weight have the same orders. Assumes nothing.
use Rattle.std.specs.Prelude.{◌≡◌, ℕ, ◌+◌, min, List, [], ◌∷◌, Option, None, Some}
use Rattle.orders.specs.declared.order.Order.{Order}
use Rattle.plain.specs.Book.{Book, resting}

abbrev pub Weight : Type 0
Weight = Order → ℕ

abbrev pub weight : Weight → List Order → ℕ
weight w [] = 0
weight w (o ∷ os) = w o + weight w os

abbrev pub place_weight : Weight → Option Order → ℕ
place_weight w None = 0
place_weight w (Some o) = w o

-- what the orders held in places weigh
abbrev pub held_weight : Weight → List (Option Order) → ℕ
held_weight w [] = 0
held_weight w (p ∷ ps) = place_weight w p + held_weight w ps

-- a number as a sum of the program has it: past the largest it stays there
abbrev pub capped : ℕ → ℕ
capped n = min n 4294967295

-- the orders held are those that rest
abbrev pub SameOrders : List (Option Order) → Book → Type 0
SameOrders ps b = (w : Weight) → held_weight w ps ≡ weight w (resting b)
