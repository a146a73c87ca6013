-- The claim for the call of one buy and two sells: it holds, and no other does.
use Rattle.std.proofs.Common.{◌≡◌, ℕ, List, [], ◌∷◌, refl, ap, subst, arith}
use Rattle.orders.specs.declared.order.Fill.{Fill}
use Rattle.plain.specs.Price.{call_volume}
use Rattle.plain.specs.Book.{Book, after, price, call_fills}
use Rattle.plain.specs.Matched.{OneList, CallMatches}
use Rattle.plain.proofs.StaysSound.{always_sound}
use Rattle.plain.proofs.Matched.{fills_are_the_one_list}
use Rattle.ranking.specs.Rules.{time}
use Rattle.ranking.proofs.Lawful.{time_lawful}
use Rattle.deals.specs.Tried.{one_buy_two_sells, sold, Holds}

abbrev dealt : List Fill
dealt = sold 1 2 41 10 ∷ sold 1 3 41 10 ∷ []

-- the laws of any book at its own price and volume, told of numbers that they are
at_numbers : (b : Book) (p n : ℕ) (fs : List Fill) → price b ≡ p → call_volume b.buys b.sells ≡ n → call_fills b ≡ fs → OneList (CallMatches time b (price b) (call_volume b.buys b.sells)) (call_fills b) → OneList (CallMatches time b p n) fs
at_numbers b p n fs price_is volume_is fills_are one =
    subst (λ x. OneList (CallMatches time b x n) fs) price_is
    (subst (λ x. OneList (CallMatches time b (price b) x) fs) volume_is (subst (OneList (CallMatches time b (price b) (call_volume b.buys b.sells))) fills_are one))

pub one_list : OneList Holds dealt
one_list = at_numbers (after time one_buy_two_sells) 41 20 dealt refl refl refl (fills_are_the_one_list time time_lawful (after time one_buy_two_sells) (always_sound time time_lawful one_buy_two_sells)).of_call

-- a claim whose first fill has another quantity, or another seller, fails
abbrev quantity_of : List Fill → ℕ
quantity_of [] = 0
quantity_of (f ∷ fs) = f.quantity

abbrev sell_of : List Fill → ℕ
sell_of [] = 0
sell_of (f ∷ fs) = f.sell

pub split_fails : Holds (sold 1 2 41 4 ∷ sold 1 2 41 6 ∷ sold 1 3 41 10 ∷ []) → ⊥
split_fails laws = let same : ◌≡◌ {A = ℕ} 4 10 = ap quantity_of (one_list.only _ laws) in omega arith

pub reversed_fails : Holds (sold 1 3 41 10 ∷ sold 1 2 41 10 ∷ []) → ⊥
reversed_fails laws = let same : ◌≡◌ {A = ℕ} 3 2 = ap sell_of (one_list.only _ laws) in omega arith
