-- Places gone through from the first on: what is wanted and not found yet is among those left. Assumes nothing.
use Rattle.std.proofs.Common.{◌≡◌, ℕ, zero, suc, ◌<◌, List, ◌∷◌, length, refl, inl, inr, arith, Option, Some, ◌⊎◌}
use Rattle.orders.specs.declared.order.Order.{Order}
use Rattle.ranking.specs.Search.{Holds}
use Rattle.matching.proofs.OnSide.{HeldAt, held_later}

abbrev pub Seen : (Order → Type 0) → List (Option Order) → List (Option Order) → Type 0
Seen Wanted all left = ((y : Order) → HeldAt left y → HeldAt all y) × ((y : Order) → HeldAt all y → Wanted y → HeldAt left y)

first_or_later : (p : Option Order) (ps : List (Option Order)) (y : Order) (i : ℕ) → i < length (p ∷ ps) → Holds (p ∷ ps) i y → (p ≡ Some y) ⊎ HeldAt ps y
first_or_later p ps y zero lt holds = inl holds
first_or_later p ps y (suc i) lt holds = inr (i, omega arith, holds)

module _ (Wanted : Order → Type 0) (all : List (Option Order)) where
  pub seen_one : (o : Order) (left : List (Option Order)) → Seen Wanted all (Some o ∷ left) → HeldAt all o
  seen_one o left seen = seen.0 o (0, omega arith, refl)

  pub seen_more : (p : Option Order) (left : List (Option Order)) → Seen Wanted all (p ∷ left) → ((y : Order) → p ≡ Some y → Wanted y → ⊥) → Seen Wanted all left
  seen_more p left seen unwanted = (
    λ y at. seen.0 y (held_later y p left at),
    λ y at wanted. let found = seen.1 y at wanted in elim (first_or_later p left y found.0 found.1 found.2) [
      | inl here ↦ absurd (unwanted y here wanted)
      | inr later ↦ later
    ],
  )
