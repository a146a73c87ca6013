-- What the orders of a list weigh. Assumes nothing.
use Rattle.std.proofs.Common.{◌≡◌, ◌+◌, Bool, List, [], ◌∷◌, ◌++◌, length, refl, arith}
use Rattle.std.proofs.lemmas.Bool.{cond_both}
use Rattle.orders.specs.declared.order.Order.{Order}
use Rattle.plain.specs.Rule.{Rule}
use Rattle.plain.specs.Orders.{keep, total, placed}
use Rattle.matching.specs.Weights.{Weight, weight}
use Rattle.matching.specs.Scans.{tonnes_if}

pub weight_append : (w : Weight) (xs ys : List Order) → weight w (xs ++ ys) ≡ weight w xs + weight w ys
weight_append w [] ys = omega arith
weight_append w (x ∷ xs) ys = omega (arith, weight_append w xs ys)

pub weight_placed : (w : Weight) (rule : Rule) (o : Order) (xs : List Order) → weight w (placed rule o xs) ≡ w o + weight w xs
weight_placed w rule o [] = refl
weight_placed w rule o (x ∷ xs) =
    cond_both (rule o x) (o ∷ x ∷ xs) (x ∷ placed rule o xs) (λ ys. weight w ys ≡ w o + weight w (x ∷ xs)) (λ _. refl) (λ _. omega (arith, weight_placed w rule o xs))

-- the orders counted
pub weight_ones : (xs : List Order) → weight (λ _. 1) xs ≡ length xs
weight_ones [] = refl
weight_ones (x ∷ xs) = omega (arith, weight_ones xs)

-- the tonnes of those that pass
pub weight_tonnes : (test : Order → Bool) (xs : List Order) → weight (tonnes_if test) xs ≡ total (keep test xs)
weight_tonnes test [] = refl
weight_tonnes test (x ∷ xs) =
    cond_both (test x) (x ∷ keep test xs) (keep test xs) (λ ys. weight (tonnes_if test) (x ∷ xs) ≡ total ys)
    (λ passes. rw passes (omega (arith, weight_tonnes test xs))) (λ fails. rw fails (omega (arith, weight_tonnes test xs)))
