-- Orders from the front of a list, and sums as the program has them. Assumes nothing.
use Rattle.std.specs.Prelude.{ℕ, ◌-◌, min, cond, List, [], ◌∷◌, Some, None, Option, nat_le}
use Rattle.orders.specs.declared.order.Order.{Order}
use Rattle.plain.specs.Rule.{with_remaining}

-- a number as a sum of the program has it: past the largest it stays there
abbrev pub capped : ℕ → ℕ
capped n = min n 4294967295

abbrev pub head_of : List Order → Option Order
head_of [] = None
head_of (x ∷ xs) = Some x

-- a list after q tonnes of its first order: one with nothing remaining leaves
abbrev pub cut_list : ℕ → List Order → List Order
cut_list q [] = []
cut_list q (x ∷ xs) = cond (nat_le x.remaining q) xs (with_remaining x (x.remaining - q) ∷ xs)
