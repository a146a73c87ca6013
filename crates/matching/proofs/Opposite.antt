-- The tonnes opposite an order are those of the other side within its limit. Assumes nothing.
use Rattle.std.proofs.Common.{◌≡◌, ℕ, Bool, true, false, cond, ◌&&◌, List, [], ◌∷◌, refl, ◌∙◌, arith}
use Rattle.orders.specs.declared.request.Side.{Side}
use Rattle.orders.specs.declared.order.Order.{Order}
use Rattle.plain.specs.Rule.{Rule}
use Rattle.plain.specs.Orders.{keep, total, within, other}
use Rattle.plain.specs.Book.{Book, side, resting}
use Rattle.plain.specs.Sound.{Sound}
use Rattle.matching.specs.Weights.{weight}
use Rattle.matching.specs.Scans.{opposite, tonnes_if, only_side, same_side}
use Rattle.matching.proofs.Weighed.{weight_tonnes}
use Rattle.matching.proofs.OnSide.{side_weight}

both_tests : (a b : Bool) (n : ℕ) → cond (a && b) n 0 ≡ cond a (cond b n 0) 0
both_tests true b n = refl
both_tests false b n = refl

other_weight : (s : Side) (limit : ℕ) (xs : List Order) → weight (tonnes_if (opposite s limit)) xs ≡ weight (only_side (other s) (tonnes_if (within s limit))) xs
other_weight s limit [] = refl
other_weight s limit (x ∷ xs) = omega (arith, other_weight s limit xs, both_tests (same_side (other s) x.side) (within s limit x) x.remaining)

pub opposite_weight : {rule : Rule} (b : Book) → Sound rule b → (s : Side) (limit : ℕ) →
    weight (tonnes_if (opposite s limit)) (resting b) ≡ total (keep (within s limit) (side (other s) b))
opposite_weight b sound s limit =
    other_weight s limit (resting b) ∙ (side_weight b sound (other s) (tonnes_if (within s limit)) ∙ weight_tonnes (within s limit) (side (other s) b))
