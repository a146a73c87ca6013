-- What the orders held in places weigh. Assumes nothing.
use Rattle.std.proofs.Common.{◌≡◌, ℕ, zero, suc, ◌+◌, ◌<◌, ◌≤◌, List, [], ◌∷◌, length, get_or, replicate, set, refl, zero-le, arith, Option, None, Some}
use Rattle.orders.specs.declared.order.Order.{Order}
use Rattle.matching.specs.Weights.{Weight, place_weight, held_weight}

module _ (w : Weight) where
  -- a write
  pub held_set : (ps : List (Option Order)) (i : ℕ) (p : Option Order) → i < length ps →
      held_weight w (set ps i p) + place_weight w (get_or ps i None) ≡ held_weight w ps + place_weight w p
  held_set [] i p h = absurd (omega arith)
  held_set (x ∷ ps) zero p h = omega arith
  held_set (x ∷ ps) (suc i) p h = omega (arith, held_set ps i p (omega arith))

  -- all vacant
  pub held_none : (n : ℕ) → held_weight w (replicate n None) ≡ 0
  held_none zero = refl
  held_none (suc n) = omega (arith, held_none n)

-- how many orders are held
pub held_all : (ps : List (Option Order)) → ((i : ℕ) → i < length ps → get_or ps i None ≡ None → ⊥) → held_weight (λ _. 1) ps ≡ length ps
held_all [] h = refl
held_all (None ∷ ps) h = absurd (h 0 (omega arith) refl)
held_all (Some o ∷ ps) h = omega (arith, held_all ps (λ i lt. h (suc i) (omega arith)))

held_fit : (ps : List (Option Order)) → held_weight (λ _. 1) ps ≤ length ps
held_fit [] = zero-le
held_fit (None ∷ ps) = omega (arith, held_fit ps)
held_fit (Some o ∷ ps) = omega (arith, held_fit ps)

pub held_room : (ps : List (Option Order)) (k : ℕ) → k < length ps → get_or ps k None ≡ None → held_weight (λ _. 1) ps < length ps
held_room [] k h e = absurd (omega arith)
held_room (p ∷ ps) zero h e = rw e (omega (arith, held_fit ps))
held_room (None ∷ ps) (suc k) h e = omega (arith, held_room ps k (omega arith) e)
held_room (Some o ∷ ps) (suc k) h e = omega (arith, held_room ps k (omega arith) e)
