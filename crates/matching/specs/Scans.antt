-- What a scan of places finds. Assumes nothing.
use Rattle.std.specs.Prelude.{◌≡◌, ℕ, ◌+◌, ◌<◌, Bool, true, false, cond, ◌&&◌, List, Some, None, Option, ◌≢◌, slice_index_or}
use Rattle.orders.specs.declared.request.Side.{Side}
use Rattle.orders.specs.declared.request.Side.TheVariants.{Buy, Sell}
use Rattle.orders.specs.declared.order.Order.{Order}
use Rattle.plain.specs.Rule.{Rule}
use Rattle.plain.specs.Orders.{within, other}
use Rattle.ranking.specs.Search.{Holds}
use Rattle.matching.specs.Weights.{Weight, held_weight}

-- a vacant place among the first n
abbrev pub VacantIn : List (Option Order) → ℕ → Option ℕ → Type 0
VacantIn ps n None = (i : ℕ) → i < n → slice_index_or ps i None ≢ None
VacantIn ps n (Some k) = (k < n) × (slice_index_or ps k None ≡ None)

-- the order of a number among the first n places
abbrev pub NumberedIn : ℕ → List (Option Order) → ℕ → Option (ℕ × Order) → Type 0
NumberedIn number ps n None = (i : ℕ) → i < n → (y : Order) → Holds ps i y → y.number ≢ number
NumberedIn number ps n (Some s) = (s.0 < n) × Holds ps s.0 s.1 × (s.1.number ≡ number)

abbrev pub same_side : Side → Side → Bool
same_side Buy Buy = true
same_side Buy Sell = false
same_side Sell Buy = false
same_side Sell Sell = true

-- whether an order rests on the other side, within the limit of an order of the side
abbrev pub opposite : Side → ℕ → Order → Bool
opposite side limit o = same_side (other side) o.side && within side limit o

abbrev pub tonnes_if : (Order → Bool) → Weight
tonnes_if test o = cond (test o) o.remaining 0

abbrev pub one_if : (Order → Bool) → Weight
one_if test o = cond (test o) 1 0

-- a weight of the orders of one side, and how many of an order's side are ahead of it
abbrev pub only_side : Side → Weight → Weight
only_side side w o = cond (same_side side o.side) (w o) 0

abbrev pub ahead_of : Rule → Order → Weight
ahead_of rule o = only_side o.side (one_if (λ y. rule y o))

-- the order of a side among the first n places that so many less one are ahead of
abbrev pub HasRank : Rule → Side → ℕ → List (Option Order) → Order → Type 0
HasRank rule side rank ps o = (same_side side o.side ≡ true) × (held_weight (ahead_of rule o) ps + 1 ≡ rank)

abbrev pub RankedIn : Rule → Side → ℕ → List (Option Order) → ℕ → Option Order → Type 0
RankedIn rule side rank ps n None = (i : ℕ) → i < n → (y : Order) → Holds ps i y → HasRank rule side rank ps y → ⊥
RankedIn rule side rank ps n (Some o) = ((i : ℕ) × (i < n) × Holds ps i o) × HasRank rule side rank ps o
