-- What places that hold a book's orders have in common with it. Assumes nothing.
use Rattle.std.proofs.Common.{◌≡◌, ℕ, suc, ◌<◌, ◌≤◌, List, [], ◌∷◌, length, refl, ap, ◌∙◌, arith, Option, None, Some}
use mathlib.Core.List.{Memᴰ}
use Rattle.std.proofs.lemmas.Bool.{cond-true}
use Rattle.orders.specs.declared.order.Order.{Order}
use Rattle.plain.specs.Book.{Book, resting}
use Rattle.ranking.specs.Search.{Holds}
use Rattle.matching.specs.Weights.{Weight, place_weight, held_weight, SameOrders}
use Rattle.matching.specs.Scans.{one_if}
use Rattle.matching.proofs.Alike.{alike, alike_itself, has_one}
use Rattle.matching.proofs.Held.{held_set}
use Rattle.matching.proofs.Weighed.{weight_ones}

-- what one place weighs is among what all weigh
pub held_part : (w : Weight) (ps : List (Option Order)) (i : ℕ) (o : Order) → i < length ps → Holds ps i o → w o ≤ held_weight w ps
held_part w ps i o h holds = omega (arith, held_set w ps i None h, ap (place_weight w) holds)

-- where no place weighs anything, all weigh nothing
pub held_nothing : (w : Weight) (ps : List (Option Order)) → ((i : ℕ) → i < length ps → (y : Order) → Holds ps i y → w y ≡ 0) → held_weight w ps ≡ 0
held_nothing w [] h = refl
held_nothing w (None ∷ ps) h = omega (arith, held_nothing w ps (λ i lt. h (suc i) (omega arith)))
held_nothing w (Some o ∷ ps) h = omega (arith, held_nothing w ps (λ i lt. h (suc i) (omega arith)), h 0 (omega arith) o refl)

module _ (ps : List (Option Order)) (b : Book) (orders : SameOrders ps b) where
  -- an order that is held rests
  pub held_rests : (i : ℕ) (o : Order) → i < length ps → Holds ps i o → Memᴰ o (resting b)
  held_rests i o h holds =
      has_one o (resting b)
      (omega (arith, held_part (one_if (alike o)) ps i o h holds, cond-true {A = ℕ} (alike o o) 1 0 (alike_itself o), orders (one_if (alike o))))

  -- as many are held as rest
  pub held_count : held_weight (λ _. 1) ps ≡ length (resting b)
  held_count = orders (λ _. 1) ∙ weight_ones (resting b)
