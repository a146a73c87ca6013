-- Fills that are put forward, held one by one against those that two lists of orders deal. Assumes nothing.
use Rattle.std.specs.Prelude.{ℕ, ◌-◌, min, Bool, false, cond, not, ◌&&◌, List, [], ◌∷◌, is_some, Some, None, Option, ◌==◌}
use Rattle.orders.specs.declared.order.Order.{Order}
use Rattle.orders.specs.declared.order.Fill.{Fill}
use Rattle.plain.specs.Dealing.{Pricing, fill}
use Rattle.plain.specs.Book.{resting_price}
use Rattle.replay.specs.declared.fills.Terms.{Terms}
use Rattle.replay.specs.declared.fills.Terms.TheVariants.{Resting, Uniform}
use Rattle.replay.specs.Lists.{head_of, cut_list}

abbrev pub pricing : Terms → Pricing
pricing (Resting side) = resting_price side
pricing (Uniform price) = λ _ _. price

abbrev pub same_fill : Fill → Fill → Bool
same_fill f g =
    (f.buy == g.buy) && (f.sell == g.sell && (f.buyer == g.buyer && (f.seller == g.seller && (f.price == g.price && f.quantity == g.quantity))))

abbrev pub is_fill : Fill → Option Fill → Bool
is_fill f None = false
is_fill f (Some g) = same_fill f g

-- the tonnes dealt between a buy and a sell of which n are left
abbrev pub crossing : ℕ → Order → Order → ℕ
crossing n b s = min (min n b.remaining) s.remaining

-- the first fill of n tonnes between the first buyer and the first seller, if there are any
abbrev pub first_fill : Pricing → ℕ → Option Order → Option Order → Option Fill
first_fill price n None s = None
first_fill price n (Some b) None = None
first_fill price n (Some b) (Some s) = cond (n == 0) None (Some (fill price b s (crossing n b s)))

-- whether each of the fills is the next that is dealt, and none is missing
abbrev pub agrees : Pricing → ℕ → List Order → List Order → List Fill → Bool
agrees price n bs ss [] = not (is_some (first_fill price n (head_of bs) (head_of ss)))
agrees price n bs ss (f ∷ fs) =
    is_fill f (first_fill price n (head_of bs) (head_of ss)) && agrees price (n - f.quantity) (cut_list f.quantity bs) (cut_list f.quantity ss) fs
