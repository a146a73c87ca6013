-- Deals tried on the plain book, a claim and a cap. Assumes nothing.
use Rattle.std.specs.Prelude.{◌≡◌, ℕ, ◌≤◌, T, List, [], ◌∷◌, replicate, Some, None, Option, nat_le}
use Rattle.std.proofs.Common.{lit≤}
use Rattle.orders.specs.declared.request.Side.{Side}
use Rattle.orders.specs.declared.request.Side.TheVariants.{Buy, Sell}
use Rattle.orders.specs.declared.request.Life.TheVariants.{Rest}
use Rattle.orders.specs.declared.request.Request.{Request}
use Rattle.orders.specs.declared.request.Request.TheVariants.{Enter, Call}
use Rattle.orders.specs.declared.order.Fill.{Fill}
use Rattle.orders.specs.declared.answer.Answer.{Answer}
use Rattle.orders.specs.declared.answer.Answer.TheVariants.{Entered, Called}
use Rattle.orders.specs.declared.refusal.Cause.{Cause}
use Rattle.orders.specs.declared.refusal.Cause.TheVariants.{OverCap, BookFull, BelowMinimum}
use Rattle.plain.specs.Rule.{Rule}
use Rattle.plain.specs.Book.{Tape, reply, after}
use Rattle.plain.specs.Gate.{refused_by}
use Rattle.plain.specs.Matched.{CallMatches}
use Rattle.ranking.specs.Rules.{time, size}
use Rattle.layers.specs.Own.{cap_rule}

-- an entry's ranges, each to be computed
abbrev pub InRange : (quantity price minimum : ℕ) → Type 0
InRange quantity price minimum = T (nat_le 1 price) × T (nat_le price 100000) × T (nat_le 1 quantity) × T (nat_le quantity 50000) × T (nat_le minimum quantity)

-- all five hold
abbrev pub fine : Unit {0} × Unit {0} × Unit {0} × Unit {0} × Unit {0}
fine = (tt, tt, tt, tt, tt)

-- member 1 buys, and member 2 sells: tonnes, at a price, of which a minimum at once
abbrev pub member_of : Side → ℕ
member_of Buy = 1
member_of Sell = 2

pub member_low : (s : Side) → member_of s ≤ 63
member_low Buy = lit≤ tt
member_low Sell = lit≤ tt

-- an entry that is to rest
abbrev pub enters : (s : Side) (quantity price minimum : ℕ) → InRange quantity price minimum → Request
enters s quantity price minimum ok =
    Enter (record {
      member = member_of s;
      side = s;
      life = Rest;
      price = price;
      quantity = quantity;
      minimum = minimum;
      member_high = member_low s;
      price_low = lit≤ ok.0;
      price_high = lit≤ ok.1;
      quantity_low = lit≤ ok.2;
      quantity_high = lit≤ ok.3;
      minimum_high = lit≤ ok.4;
    })

-- what a request is answered after a tape, and its fills
abbrev pub answered : Rule → Tape → Request → Answer
answered rule t q = (reply rule (after rule t) q).answer

-- its fills
abbrev pub fills_of : Rule → Tape → Request → List Fill
fills_of rule t q = (reply rule (after rule t) q).fills

-- whether it is refused by a book of the capacity, with as long a fill list
abbrev pub refused : ℕ → Tape → Request → Option Cause
refused capacity t q = refused_by capacity (after time t) q capacity

-- the answer to a call
abbrev pub called : (price volume fills : ℕ) → Answer
called price volume fills = Called (record { price = price; volume = volume; fills = fills })

-- a fill between members 1 and 2
abbrev pub sold : (buy sell price quantity : ℕ) → Fill
sold buy sell price quantity = record { buy = buy; sell = sell; buyer = 1; seller = 2; price = price; quantity = quantity }

-- while dealing, 100 tonnes are in reach at 180, and 50 beyond it
abbrev pub hundred_in_reach : Tape
hundred_in_reach = Call ∷ enters Sell 60 180 0 fine ∷ enters Sell 50 181 0 fine ∷ enters Sell 40 179 0 fine ∷ []

-- while dealing, 50 tonnes and then 80 are sold at 180
abbrev pub fifty_then_eighty : Tape
fifty_then_eighty = Call ∷ enters Sell 50 180 0 fine ∷ enters Sell 80 180 0 fine ∷ []

-- gathered: a buy of 20 tonnes at 50, and sells of 10 at 40 and 10 at 41
abbrev pub one_buy_two_sells : Tape
one_buy_two_sells = enters Buy 20 50 0 fine ∷ enters Sell 10 40 0 fine ∷ enters Sell 10 41 0 fine ∷ []

-- whether a claim of fills at the price and volume of its call holds: the call is at 41, and deals 20 tonnes
abbrev pub Holds : List Fill → Type 0
Holds = CallMatches time (after time one_buy_two_sells) 41 20

-- what a cap layer without caps given says to a buy after a buy of 300 tonnes
abbrev pub over_cap : Request → Option Cause
over_cap q = cap_rule (replicate 64 1000) time (enters Buy 300 200 0 fine ∷ []) q 8

-- the deals, and what came of them
pub record TriedDeals : Type 0 where
  pub empty_call : answered time [] Call ≡ called 0 0 0
  pub lowest_price : answered time (enters Buy 10 50 0 fine ∷ enters Sell 10 40 0 fine ∷ []) Call ≡ called 40 10 1
  pub apart : answered time (enters Buy 10 50 0 fine ∷ enters Sell 10 51 0 fine ∷ []) Call ≡ called 0 0 0
  pub smallest_imbalance : answered time (enters Buy 10 50 0 fine ∷ enters Buy 10 45 0 fine ∷ enters Sell 10 40 0 fine ∷ []) Call ≡ called 46 10 1
  pub minimum_admitted : refused 8 hundred_in_reach (enters Buy 150 180 100 fine) ≡ None
  pub minimum_dealt : answered time hundred_in_reach (enters Buy 150 180 100 fine) ≡ Entered (record { number = 4; fills = 2; dealt = 100; resting = 50; withdrawn = 0 })
  pub below_minimum : refused 8 hundred_in_reach (enters Buy 150 180 101 fine) ≡ Some BelowMinimum
  pub by_time : fills_of time fifty_then_eighty (enters Buy 60 180 0 fine) ≡ sold 3 1 180 50 ∷ sold 3 2 180 10 ∷ []
  pub by_size : fills_of size fifty_then_eighty (enters Buy 60 180 0 fine) ≡ sold 3 2 180 60 ∷ []
  pub book_full : refused 1 (enters Sell 10 50 0 fine ∷ []) (enters Buy 10 40 0 fine) ≡ Some BookFull
  pub call_of_two : answered time one_buy_two_sells Call ≡ called 41 20 2
  pub claim_holds : Holds (sold 1 2 41 10 ∷ sold 1 3 41 10 ∷ [])
  pub split_pair_fails : Holds (sold 1 2 41 4 ∷ sold 1 2 41 6 ∷ sold 1 3 41 10 ∷ []) → ⊥
  pub reversed_fails : Holds (sold 1 3 41 10 ∷ sold 1 2 41 10 ∷ []) → ⊥
  pub within_cap : over_cap (enters Buy 700 200 0 fine) ≡ None
  pub above_cap : over_cap (enters Buy 701 200 0 fine) ≡ Some OverCap
