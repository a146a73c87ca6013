-- What an entry deals, and of which orders. Assumes nothing.
use Rattle.std.proofs.Common.{◌≡◌, ℕ, ◌+◌, ◌≤◌, min, Bool, List, [], ◌∷◌, sym, refl, ◌∙◌, arith}
use Rattle.orders.specs.declared.request.Side.{Side}
use Rattle.orders.specs.declared.request.Side.TheVariants.{Buy, Sell}
use Rattle.orders.specs.declared.entry.Entry.{Entry}
use Rattle.orders.specs.declared.order.Phase.{Phase}
use Rattle.orders.specs.declared.order.Phase.TheVariants.{Gathering, Dealing}
use Rattle.orders.specs.declared.order.Order.{Order}
use Rattle.orders.specs.declared.order.Fill.{Fill}
use Rattle.plain.specs.Orders.{keep, total, other}
use Rattle.plain.specs.Dealing.{Pricing, dealt, given, tonnes, settled, takes}
use Rattle.plain.specs.Book.{Book, in_reach, reach, order, resting_price, entry_buyers, entry_sellers, entry_fills}
use Rattle.plain.specs.Sound.{Distinct}
use Rattle.plain.proofs.Kept.{numbered}
use Rattle.plain.proofs.Sides.{pick}
use Rattle.plain.proofs.Portions.{portions, taken_first}
use Rattle.plain.proofs.Given.{counted, Looks, given_of, dealt_tonnes}
use Rattle.plain.proofs.Settling.{Blind, dealt_settles}

-- k tonnes of an order dealt with orders of the other side
abbrev pub dealt_at : Side → Order → ℕ → List Order → List Fill
dealt_at s o k os = dealt (resting_price s) k (entry_buyers s o os) (entry_sellers s o os)

-- the parties to an entry
pub own_list : (s : Side) (o : Order) (os : List Order) → pick s (entry_buyers s o os) (entry_sellers s o os) ≡ o ∷ []
own_list Buy o os = refl
own_list Sell o os = refl

pub their_list : (s : Side) (o : Order) (os : List Order) → pick (other s) (entry_buyers s o os) (entry_sellers s o os) ≡ os
their_list Buy o os = refl
their_list Sell o os = refl

-- where the order and the others have the tonnes
module _ (s : Side) (o : Order) (k : ℕ) (os : List Order) (own : k ≤ o.remaining) (theirs : k ≤ total os) where
  buyers_have : k ≤ total (entry_buyers s o os)
  buyers_have = elim s as (λ t. k ≤ total (entry_buyers t o os)) [ Buy ↦ omega arith | Sell ↦ theirs ]

  sellers_have : k ≤ total (entry_sellers s o os)
  sellers_have = elim s as (λ t. k ≤ total (entry_sellers t o os)) [ Buy ↦ theirs | Sell ↦ omega arith ]

  pub dealt_at_tonnes : tonnes (dealt_at s o k os) ≡ k
  dealt_at_tonnes = dealt_tonnes (resting_price s) k (entry_buyers s o os) (entry_sellers s o os) buyers_have sellers_have

  at_given : (t : Side) (n : ℕ) → given t n (dealt_at s o k os) ≡ portions (numbered n) (takes k (pick t (entry_buyers s o os) (entry_sellers s o os)))
  at_given = given_of (resting_price s) k (entry_buyers s o os) (entry_sellers s o os) buyers_have sellers_have

  -- the order is given all the tonnes, and each of the others what is taken of it
  pub own_given : given s o.number (dealt_at s o k os) ≡ k
  own_given = at_given s o.number ∙ rw (own_list s o os) (omega (arith, taken_first k o [] tt))

  pub their_given : (n : ℕ) → given (other s) n (dealt_at s o k os) ≡ portions (numbered n) (takes k os)
  their_given n = at_given (other s) n ∙ rw (their_list s o os)

  pub dealt_at_settles : (t : Side) (test : Fill → Bool) (p q : Order → Bool) → Looks t (resting_price s) test p → Blind p → (xs : List Order) →
      Distinct xs → pick t (entry_buyers s o os) (entry_sellers s o os) ≡ keep q xs →
      total (keep p xs) ≡ counted test (dealt_at s o k os) + total (keep p (settled t (dealt_at s o k os) xs))
  dealt_at_settles = dealt_settles (resting_price s) k (entry_buyers s o os) (entry_sellers s o os) buyers_have sellers_have

-- the tonnes that an entry deals
abbrev pub entry_tonnes : Phase → Entry → Book → ℕ
entry_tonnes Gathering e b = 0
entry_tonnes Dealing e b = min e.quantity (reach e b)

none_dealt : (price : Pricing) (buyers sellers : List Order) → dealt price 0 buyers sellers ≡ []
none_dealt price [] sellers = refl
none_dealt price (o ∷ os) sellers = refl

pub entry_dealt : (phase : Phase) (e : Entry) (b : Book) →
    entry_fills phase e b ≡ dealt_at e.side (order e b.next) (entry_tonnes phase e b) (in_reach e b)
entry_dealt Gathering e b = sym (none_dealt (resting_price e.side) _ _)
entry_dealt Dealing e b = refl

pub entry_within_order : (phase : Phase) (e : Entry) (b : Book) → entry_tonnes phase e b ≤ e.quantity
entry_within_order Gathering e b = omega arith
entry_within_order Dealing e b = omega arith

pub entry_within_reach : (phase : Phase) (e : Entry) (b : Book) → entry_tonnes phase e b ≤ reach e b
entry_within_reach Gathering e b = omega arith
entry_within_reach Dealing e b = omega arith
