-- Fills between two lists of orders are fewer than the orders, if any. Assumes nothing.
use Rattle.std.proofs.Common.{◌≡◌, ℕ, ◌+◌, ◌-◌, ◌≤◌, eqb, List, [], ◌∷◌, length, ap, arith, length-append}
use Rattle.std.proofs.lemmas.Bool.{cond_both}
use Rattle.std.proofs.lemmas.Bool.Decides.{nat_tests}
use Rattle.orders.specs.declared.request.Side.{Side}
use Rattle.orders.specs.declared.request.Side.TheVariants.{Buy, Sell}
use Rattle.orders.specs.declared.entry.Entry.{Entry}
use Rattle.orders.specs.declared.order.Phase.{Phase}
use Rattle.orders.specs.declared.order.Order.{Order}
use Rattle.plain.specs.Orders.{within}
use Rattle.plain.specs.Dealing.{Pricing, takes, fill, fills_with, left_of, paired, dealt}
use Rattle.plain.specs.Price.{call_volume}
use Rattle.plain.specs.Book.{Book, in_reach, order, resting_price, entry_fills, price, call_buyers, call_sellers}
use Rattle.plain.specs.Promises.{FillsAreFew}
use Rattle.plain.proofs.Kept.{keep_few}
use Rattle.plain.proofs.Portions.{Portion, takes_few}
use Rattle.plain.proofs.Given.{fills_none}
use Rattle.plain.proofs.Entry.{dealt_at, entry_tonnes, entry_dealt}

module _ (price : Pricing) where
  fills_few : (b : Order) (n : ℕ) (ss : List Portion) → length (fills_with price b n ss) ≤ length ss
  fills_few b n [] = omega arith
  fills_few b n (s ∷ ss) =
      cond_both (eqb n 0) [] (fill price b s.0 _ ∷ fills_with price b (n - s.1) ss) (λ fs. length fs ≤ length (s ∷ ss)) (λ _. omega arith)
      (λ _. omega (arith, fills_few b (n - s.1) ss))

  -- a fill uses a seller up, but for the last of a buyer's
  fills_use_up : (b : Order) (n : ℕ) (ss : List Portion) → length (fills_with price b n ss) + length (left_of n ss) ≤ length ss + 1
  fills_use_up b n [] = omega arith
  fills_use_up b n (s ∷ ss) =
      let rest = fills_use_up b (n - s.1) ss in
      let none : n - s.1 ≡ 0 → length (fills_with price b (n - s.1) ss) ≡ 0 = λ z. ap length (fills_none price b (n - s.1) z ss) in
      grind (arith, nat_tests)

  paired_few : (bs ss : List Portion) → length (paired price bs ss) ≤ (length bs + length ss) - 1
  paired_few [] ss = omega arith
  paired_few (b ∷ bs) ss =
      let rest = paired_few bs (left_of b.1 ss) in
      let here = fills_use_up b.0 b.1 ss in
      let few = fills_few b.0 b.1 ss in
      let both = length-append (fills_with price b.0 b.1 ss) (paired price bs (left_of b.1 ss)) in
      omega arith

dealt_few : (price : Pricing) (n : ℕ) (buyers sellers : List Order) → length (dealt price n buyers sellers) ≤ (length buyers + length sellers) - 1
dealt_few price n buyers sellers = omega (arith, paired_few price (takes n buyers) (takes n sellers), takes_few n buyers, takes_few n sellers)

-- an entry is one order against those in its reach
dealt_at_few : (s : Side) (o : Order) (k : ℕ) (os : List Order) → length (dealt_at s o k os) ≤ length os
dealt_at_few Buy o k os = omega (arith, dealt_few (resting_price Buy) k (o ∷ []) os)
dealt_at_few Sell o k os = omega (arith, dealt_few (resting_price Sell) k os (o ∷ []))

entry_few : (phase : Phase) (e : Entry) (b : Book) → length (entry_fills phase e b) ≤ length (in_reach e b)
entry_few phase e b = rw (entry_dealt phase e b) (dealt_at_few e.side (order e b.next) (entry_tonnes phase e b) (in_reach e b))

pub fills_are_few : FillsAreFew
fills_are_few b =
    let call = dealt_few (λ _ _. price b) (call_volume b.buys b.sells) (call_buyers b) (call_sellers b) in
    let buyers = keep_few (within Sell (price b)) b.buys in
    let sellers = keep_few (within Buy (price b)) b.sells in
    record {
      of_call = call;
      of_call_resting = omega (arith, length-append b.buys b.sells);
      of_entry = λ e. entry_few b.phase e b;
    }
