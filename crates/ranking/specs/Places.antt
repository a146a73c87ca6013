-- Places gone through by their indices. Assumes nothing.
use Rattle.std.specs.Prelude.{◌≡◌, ℕ, ◌+◌, ◌-◌, ◌^◌, ◌<◌, List, [], ◌∷◌, length, drop, None, Option, MatchOption, slice_index_or}
use Rattle.std.specs.Iterator.{Count, at_most}

module _ {S R : Type 0} (next : S → ℕ) (places : S → List (Option R)) where
  abbrev pub left : S → List (Option R)
  left s = drop (next s) (places s)

  -- a call from s gave the next place with its index and left those after it, or gave none where none was left
  abbrev pub YieldsPlace : S → Option (ℕ × Option R) → S → Type 0
  YieldsPlace s r t =
      (places t ≡ places s) ×
      MatchOption r ((next s ≡ length (places s)) × (left s ≡ []))
      (λ p. (next s < length (places s)) × (p.0 ≡ next s) × (p.1 ≡ slice_index_or (places s) (next s) None) × (next t ≡ next s + 1) × (next t < 2 ^ 64) × (left s ≡ p.1 ∷ left t))

  abbrev pub places_left : S → Count
  places_left s = at_most (length (places s) - next s)
