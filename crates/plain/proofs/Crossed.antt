-- A call leaves nothing crossed. Assumes nothing.
use Rattle.std.proofs.Common.{◌≡◌, ℕ, ◌-◌, ◌<◌, ◌≤◌, true, false, leb, List, sym, ◌∙◌, inl, inr, arith}
use mathlib.Core.List.{Memᴰ}
use Rattle.std.proofs.lemmas.Bool.{le-leb, both_ways, leb-true, cases_lt}
use Rattle.std.proofs.lemmas.Bool.Decides.{nat_tests}
use Rattle.orders.specs.declared.request.Side.{Side}
use Rattle.orders.specs.declared.request.Side.TheVariants.{Buy, Sell}
use Rattle.orders.specs.declared.order.Order.{Order}
use Rattle.plain.specs.Rule.{Rule, Lawful, Better, InSequence}
use Rattle.plain.specs.Orders.{keep, total, within, other}
use Rattle.plain.specs.Dealing.{takes}
use Rattle.plain.specs.Price.{demand, supply, volume, BestPrice, best_price, call_volume}
use Rattle.plain.specs.Book.{price, call_buyers, call_sellers, call_fills}
use Rattle.plain.specs.Sound.{AllLive}
use Rattle.plain.specs.Promises.{CallLeavesNothingCrossed}
use Rattle.plain.proofs.Members.{live_one, ahead_of_one}
use Rattle.plain.proofs.Kept.{numbered, wider_keeps_more}
use Rattle.plain.proofs.Portions.{portions}
use Rattle.plain.proofs.Given.{given_of}
use Rattle.plain.proofs.Call.{call_fits}
use Rattle.plain.proofs.Price.{best_price_is_best}
use Rattle.plain.proofs.Left.{left_when_settled}

-- an order is within its own price
within_own_price : (side : Side) (x : Order) → within (other side) x.price x ≡ true
within_own_price Buy x = le-leb x.price x.price (omega arith)
within_own_price Sell x = le-leb x.price x.price (omega arith)

-- a limit that leaves x out lies within x's price
within_beyond : (side : Side) (limit : ℕ) (x o : Order) → within (other side) limit x ≡ false → within (other side) limit o ≡ true →
    within (other side) x.price o ≡ true
within_beyond Buy limit x o out in' = grind (arith, nat_tests)
within_beyond Sell limit x o out in' = grind (arith, nat_tests)

module _ {rule : Rule} (lawful : Lawful rule) where
  -- an order's price is no better than that of one ahead of it
  ahead_is_no_worse : (side : Side) (o x : Order) → o.side ≡ side → x.side ≡ side → rule o x ≡ true → Better side x.price o.price → ⊥
  ahead_is_no_worse side o x e f ahead better = both_ways (rule x o) (lawful.one_way o x ahead) (lawful.price_first x o (f ∙ sym e) (rw f better))

  -- an order ahead of x is within x's price
  pub ahead_is_within : (side : Side) (o x : Order) → o.side ≡ side → x.side ≡ side → rule o x ≡ true → within (other side) x.price o ≡ true
  ahead_is_within Buy o x e f ahead = le-leb x.price o.price (omega (arith, ahead_is_no_worse Buy o x e f ahead))
  ahead_is_within Sell o x e f ahead = le-leb o.price x.price (omega (arith, ahead_is_no_worse Sell o x e f ahead))

  module _ (side : Side) (next limit : ℕ) (x : Order) where
    abbrev called : List Order → List Order
    called = keep (within (other side) limit)

    abbrev wanted : List Order → ℕ
    wanted os = total (keep (within (other side) x.price) os)

    -- if n tonnes of the called orders leave something of x, more than n are wanted at its price
    wants_more : (n : ℕ) (os : List Order) → AllLive side next os → InSequence rule os → Memᴰ x os → n ≤ total (called os) →
        portions (numbered x.number) (takes n (called os)) < x.remaining → n < wanted os
    wants_more n os live sequence (Memᴰ.head {x = o} {xs = os'} e) fits left =
        let own = within_own_price side x in
        let beyond : within (other side) limit x ≡ false → total (called os') ≤ wanted os' =
        λ out. wider_keeps_more (within (other side) limit) (within (other side) x.price) (λ y. within_beyond side limit x y out) os' in
        let some = live.0.some_remains in
        grind (arith, nat_tests)
    wants_more n os live sequence (Memᴰ.tail {x = o} {xs = os'} m) fits left =
        let ahead = ahead_is_within side o x live.0.of_side (live_one side next os' live.1 m).of_side (ahead_of_one rule o os' sequence.0 m) in
        let some = live.0.some_remains in
        let rest = wants_more n os' live.1 sequence.1 m in
        let after = wants_more (n - o.remaining) os' live.1 sequence.1 m in
        grind (arith, nat_tests)

-- where more is bought at k, and more sold at l, than the best price deals, k is below l
best_is_uncrossed : (buys sells : List Order) (p : ℕ) → BestPrice buys sells p → (k l : ℕ) → 1 ≤ l → l ≤ 100000 → volume buys sells p < demand buys sells k →
    volume buys sells p < supply buys sells l → k < l
best_is_uncrossed buys sells p best k l low high bought sold =
    elim (cases_lt k l) [
      | inl below ↦ below
      | inr crossed ↦
          let lower : (o : Order) → leb k o.price ≡ true → leb l o.price ≡ true = λ o t. le-leb l o.price (omega (arith, leb-true k o.price t)) in
          omega (arith, wider_keeps_more (λ o. leb k o.price) (λ o. leb l o.price) lower buys, best.most l low high)
    ]

pub call_leaves_nothing_crossed : CallLeavesNothingCrossed
call_leaves_nothing_crossed rule lawful b sound x y mx my =
    let n = call_volume b.buys b.sells in
    let fits = call_fits b.buys b.sells in
    let gives = λ (side : Side) (m : ℕ). given_of (λ _ _. price b) n (call_buyers b) (call_sellers b) fits.0 fits.1 side m in
    let buy = left_when_settled Buy (call_fills b) b.buys x mx in
    let sell = left_when_settled Sell (call_fills b) b.sells y my in
    let bought = wants_more lawful Buy b.next (price b) buy.order n b.buys sound.buys_live sound.buys_in_sequence buy.among fits.0
    (rw (gives Buy buy.order.number) at buy.some_left) in
    let sold = wants_more lawful Sell b.next (price b) sell.order n b.sells sound.sells_live sound.sells_in_sequence sell.among fits.1
    (rw (gives Sell sell.order.number) at sell.some_left) in
    let live = live_one Sell b.next b.sells sound.sells_live sell.among in
    let best = best_price_is_best b.next b.buys b.sells sound.sells_live in
    omega (
      arith,
      best_is_uncrossed b.buys b.sells (best_price b.buys b.sells) best buy.order.price sell.order.price live.price_low
          live.price_high bought sold,
      buy.same_price,
      sell.same_price,
    )
