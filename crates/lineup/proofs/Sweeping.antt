-- A sweep up the prices of both sides' orders, step by step. Assumes nothing.
use Rattle.std.proofs.Common.{◌≡◌, ℕ, ◌+◌, ◌-◌, ◌*◌, ◌^◌, ◌<◌, ◌≤◌, min, Bool, true, false, ltb, leb, ◌⊎◌, List, [], ◌∷◌, ◌++◌, reverse, length, Some, None, sym, refl, ap, ◌∙◌, subst, ⊎_elim, append_assoc, arith}
use mathlib.Core.List.{reverse-cons}
use lib.ListN.{length-reverse}
use Rattle.std.specs.List.{AllByRecursion as All}
use Rattle.std.proofs.ByRecursion.{All-push, All-weaker}
use Rattle.std.proofs.lemmas.Bool.{cond_both, cond-true, cond-false, le-leb, lt-leb, ltb-true, ltb-false, cases_lt}
use Rattle.orders.specs.declared.request.Side.{Side}
use Rattle.orders.specs.declared.request.Side.TheVariants.{Buy, Sell}
use Rattle.orders.specs.declared.order.Order.{Order}
use Rattle.plain.specs.Rule.{Rule, Lawful, Better, InSequence, AheadOfAll}
use Rattle.plain.specs.Orders.{keep, total}
use Rattle.plain.specs.Price.{demand, supply, volume, imbalance}
use Rattle.plain.specs.Book.{Book}
use Rattle.plain.specs.Sound.{LiveOrder, AllLive, Sound}
use Rattle.plain.proofs.Kept.{total_append}
use Rattle.lineup.specs.declared.sweep.Sweep.{Sweep}
use Rattle.quotes.specs.Quotes.{better}
use Rattle.lineup.specs.Sweeps.{unquoted, quote_at, at, raised, buy_passed, sell_passed, NoWorse, BestFirst, BestBelow, Swept, SweptBy, PassedTo, NextBuy}
use Rattle.lineup.proofs.Quoting.{best_none, best_more}

-- tonnes of all of a list, and of none
kept_all : (f : Order → Bool) (os : List Order) → All (λ o. f o ≡ true) os → total (keep f os) ≡ total os
kept_all f [] a = refl
kept_all f (o ∷ os) a = ap total (cond-true (f o) (o ∷ keep f os) (keep f os) a.0) ∙ ap (λ n. o.remaining + n) (kept_all f os a.1)

kept_none : (f : Order → Bool) (os : List Order) → All (λ o. f o ≡ false) os → total (keep f os) ≡ 0
kept_none f [] a = refl
kept_none f (o ∷ os) a = ap total (cond-false (f o) (o ∷ keep f os) (keep f os) a.0) ∙ kept_none f os a.1

kept_reverse : (f : Order → Bool) (os : List Order) → total (keep f (reverse os)) ≡ total (keep f os)
kept_reverse f [] = refl
kept_reverse f (o ∷ os) =
    let rest = kept_reverse f os in
    let both = total_append f (reverse os) (o ∷ []) in
    let front = total_append f (o ∷ []) os in
    ap (λ xs. total (keep f xs)) (reverse-cons o os) ∙ omega arith

total_both : (xs ys : List Order) → total (xs ++ ys) ≡ total xs + total ys
total_both [] ys = omega arith
total_both (x ∷ xs) ys = let rest = total_both xs ys in omega arith

all_reverse : (P : Order → Type 0) (os : List Order) → All P os → All P (reverse os)
all_reverse P [] a = tt
all_reverse P (o ∷ os) a = rw (reverse-cons o os) (All-push P (reverse os) o (all_reverse P os a.1) a.0)

-- between two steps demand and supply stay
demand_stays : (buys sells below above : List Order) (low high p : ℕ) → reverse buys ≡ below ++ above → All (λ o. o.price < low) below → All (λ o. high ≤ o.price + 1) above → low ≤ p → p < high →
    demand buys sells p ≡ total above
demand_stays buys sells below above low high p are under over l h =
    let f = λ (o : Order). leb p o.price in
    let none = kept_none f below (All-weaker _ (λ o. f o ≡ false) (λ o u. lt-leb p o.price (omega arith)) below under) in
    let all = kept_all f above (All-weaker _ (λ o. f o ≡ true) (λ o v. le-leb p o.price (omega arith)) above over) in
    sym (kept_reverse f buys) ∙ ap (λ xs. total (keep f xs)) are ∙ total_append f below above ∙ omega arith

supply_stays : (buys sells sold unsold : List Order) (low high p : ℕ) → sells ≡ sold ++ unsold → All (λ o. o.price ≤ low) sold → All (λ o. high ≤ o.price) unsold → low ≤ p → p < high →
    supply buys sells p ≡ total sold
supply_stays buys sells sold unsold low high p are under over l h =
    let f = λ (o : Order). leb o.price p in
    let all = kept_all f sold (All-weaker _ (λ o. f o ≡ true) (λ o u. le-leb o.price p (omega arith)) sold under) in
    let none = kept_none f unsold (All-weaker _ (λ o. f o ≡ false) (λ o v. lt-leb o.price p (omega arith)) unsold over) in
    ap (λ xs. total (keep f xs)) are ∙ total_append f sold unsold ∙ omega arith

module _ (b : Book) (below above sold unsold : List Order) (w : Sweep) (s : Swept b below above sold unsold w) where
  -- the best price below a higher limit, where no order's price lies between
  best_up : (k : ℕ) → w.price < k → All (λ o. k ≤ o.price + 1) above → All (λ o. k ≤ o.price) unsold →
      BestBelow (volume b.buys b.sells) (imbalance b.buys b.sells) k (better w.best (quote_at w))
  best_up k up over unsold_over =
      best_more (volume b.buys b.sells) (imbalance b.buys b.sells) w.price k w.best (quote_at w) s.best_is s.low up refl
      (λ p l h.
      let bought : demand b.buys b.sells p ≡ w.demand = demand_stays b.buys b.sells below above w.price k p s.buys_are s.below_under over l h ∙ sym s.demand_is in
      let sold_here : supply b.buys b.sells p ≡ w.supply = supply_stays b.buys b.sells sold unsold w.price k p s.sells_are s.sold_under unsold_over l h ∙ sym s.supply_is in
      (ap (λ n. min n (supply b.buys b.sells p)) bought ∙ ap (min w.demand) sold_here, ap (λ n. (n - supply b.buys b.sells p) + (supply b.buys b.sells p - n)) bought ∙ ap (λ n. (w.demand - n) + (n - w.demand)) sold_here))

  -- a sweep up to a price that no order left is below
  risen : (k : ℕ) → w.price ≤ k → k ≤ 100000 → All (λ o. k ≤ o.price + 1) above → All (λ o. k ≤ o.price) unsold → (Swept b below above sold unsold (raised k w)) × ((raised k w).price ≡ k)
  risen k up high over unsold_over =
      cond_both (ltb w.price k) (at k w) w (λ v. (Swept b below above sold unsold v) × (v.price ≡ k))
      (λ t.
      let l = ltb-true w.price k t in (
        record {
          buys_are = s.buys_are;
          sells_are = s.sells_are;
          left_is = s.left_is;
          demand_is = s.demand_is;
          supply_is = s.supply_is;
          low = let z = s.low in omega arith;
          high = high;
          below_under = All-weaker _ (λ o. o.price < k) (λ o u. omega arith) below s.below_under;
          above_over = over;
          sold_under = All-weaker _ (λ o. o.price ≤ k) (λ o u. omega arith) sold s.sold_under;
          unsold_over = unsold_over;
          buys_rise = s.buys_rise;
          sells_rise = s.sells_rise;
          sells_high = s.sells_high;
          sells_fit = s.sells_fit;
          best_is = best_up k l over unsold_over;
        },
        refl,
      ))
      (λ t. let l = ltb-false w.price k t in (s, omega arith))

-- the lowest buy that is left is passed
buy_passed_lem : (b : Book) (below : List Order) (x : Order) (later sold unsold : List Order) (w : Sweep) (limit : ℕ) → Swept b below (x ∷ later) sold unsold w → x.price < limit → limit ≤ 100000 → All (λ o. limit ≤ o.price) unsold →
    Swept b (below ++ x ∷ []) later sold unsold (buy_passed x w)
buy_passed_lem b below x later sold unsold w limit s under high over =
    let k = x.price + 1 in
    let fits : min (x.price + 1) (2 ^ 32 - 1) ≡ k = omega arith in
    let r = risen b below (x ∷ later) sold unsold w s k s.above_over.0 (omega arith)
    (omega arith, All-weaker _ (λ o. k ≤ o.price + 1) (λ o u. omega arith) later s.buys_rise.0)
    (All-weaker _ (λ o. k ≤ o.price) (λ o u. omega arith) unsold over) in
    let v = raised k w in
    let t = r.0 in
    let left = t.left_is in
    let demanded = t.demand_is in
    let is = r.1 in
    rw fits (record {
      buys_are = t.buys_are ∙ sym (append_assoc below (x ∷ []) later);
      sells_are = t.sells_are;
      left_is = omega arith;
      demand_is = omega arith;
      supply_is = t.supply_is;
      low = t.low;
      high = t.high;
      below_under = All-push (λ o. o.price < v.price) below x t.below_under (omega arith);
      above_over = t.above_over.1;
      sold_under = t.sold_under;
      unsold_over = t.unsold_over;
      buys_rise = t.buys_rise.1;
      sells_rise = t.sells_rise;
      sells_high = t.sells_high;
      sells_fit = t.sells_fit;
      best_is = t.best_is;
    })

-- the lowest sell that is left is passed, after the buys below it
sell_passed_lem : (b : Book) (below above sold : List Order) (y : Order) (later : List Order) (w : Sweep) → Swept b below above sold (y ∷ later) w → All (λ o. y.price ≤ o.price) above →
    Swept b below above (sold ++ y ∷ []) later (sell_passed y w)
sell_passed_lem b below above sold y later w s over =
    let k = y.price in
    let r = risen b below above sold (y ∷ later) w s k s.unsold_over.0 s.sells_high.0
    (All-weaker _ (λ o. k ≤ o.price + 1) (λ o u. omega arith) above over)
    (omega arith, s.sells_rise.0) in
    let v = raised k w in
    let t = r.0 in
    let is = r.1 in
    let supplied = t.supply_is in
    let fit = s.sells_fit in
    let whole = ap total s.sells_are ∙ total_both sold (y ∷ later) in
    let more = total_both sold (y ∷ []) in
    record {
      buys_are = t.buys_are;
      sells_are = t.sells_are ∙ sym (append_assoc sold (y ∷ []) later);
      left_is = t.left_is;
      demand_is = t.demand_is;
      supply_is = omega arith;
      low = t.low;
      high = t.high;
      below_under = t.below_under;
      above_over = t.above_over;
      sold_under = All-push (λ o. o.price ≤ v.price) sold y t.sold_under (omega arith);
      unsold_over = t.unsold_over.1;
      buys_rise = t.buys_rise;
      sells_rise = t.sells_rise.1;
      sells_high = t.sells_high.1;
      sells_fit = t.sells_fit;
      best_is = t.best_is;
    }

-- no order that is left is below the limit, where the first is not
none_below : (limit : ℕ) (os : List Order) → BestFirst Sell os → ((x : Order) (later : List Order) → os ≡ x ∷ later → limit ≤ x.price) → All (λ o. limit ≤ o.price) os
none_below limit [] rise first = tt
none_below limit (x ∷ xs) rise first = let l = first x xs refl in (l, All-weaker _ (λ o. limit ≤ o.price) (λ o u. omega arith) xs rise.0)

pub next_passed : (limit : ℕ) (b : Book) (sold unsold : List Order) (w : Sweep) (s : SweptBy b sold unsold w) (x : Order) → NextBuy limit s.above (Some x) → limit ≤ 100000 → All (λ o. limit ≤ o.price) unsold →
    SweptBy b sold unsold (buy_passed x w)
next_passed limit b sold unsold w s x next high over = record {
  below = s.below ++ x ∷ [];
  above = next.0;
  swept = buy_passed_lem b s.below x next.0 sold unsold w limit (subst (λ os. Swept b s.below os sold unsold w) next.1.0 s.swept) next.1.1 high over;
}

pub none_next : (limit : ℕ) (b : Book) (sold unsold : List Order) (w : Sweep) (s : SweptBy b sold unsold w) → NextBuy limit s.above None → PassedTo limit b sold unsold w
none_next limit b sold unsold w s next = record { below = s.below; above = s.above; swept = s.swept; all = none_below limit s.above s.swept.buys_rise next }

pub sell_next : (b : Book) (sold : List Order) (y : Order) (later : List Order) (w : Sweep) → PassedTo y.price b sold (y ∷ later) w → SweptBy b (sold ++ y ∷ []) later (sell_passed y w)
sell_next b sold y later w p = record { below = p.below; above = p.above; swept = sell_passed_lem b p.below p.above sold y later w p.swept p.all }

-- the sells that are left are no lower than the first, which is within the range of prices
pub first_sell : (b : Book) (sold : List Order) (y : Order) (later : List Order) (w : Sweep) → SweptBy b sold (y ∷ later) w → (y.price ≤ 100000) × All (λ o. y.price ≤ o.price) (y ∷ later)
first_sell b sold y later w s = (s.swept.sells_high.0, (omega arith, s.swept.sells_rise.0))

-- prices in the sequence of a lawful rule
better_or_no_worse : (s : Side) (p q : ℕ) → Better s q p ⊎ NoWorse s p q
better_or_no_worse Buy p q = cases_lt p q
better_or_no_worse Sell p q = cases_lt q p

module _ (rule : Rule) (lawful : Lawful rule) (next : ℕ) where
  no_worse : (s : Side) (o x : Order) → LiveOrder s next o → LiveOrder s next x → rule o x ≡ true → NoWorse s o.price x.price
  no_worse s o x p q ahead =
      ⊎_elim
      (λ better.
      let first = lawful.price_first x o (q.of_side ∙ sym p.of_side) (subst (λ t. Better t x.price o.price) (sym q.of_side) better) in
      let z : true ≡ false = sym first ∙ lawful.one_way o x ahead in
      let w : ◌≡◌ {A = ℕ} 0 1 = cc in
      absurd (omega arith))
      (λ n. n)
      (better_or_no_worse s o.price x.price)

  all_no_worse : (s : Side) (o : Order) (xs : List Order) → LiveOrder s next o → AllLive s next xs → AheadOfAll rule o xs → All (λ x. NoWorse s o.price x.price) xs
  all_no_worse s o [] p live ahead = tt
  all_no_worse s o (x ∷ xs) p live ahead = (no_worse s o x p live.0 ahead.0, all_no_worse s o xs p live.1 ahead.1)

  best_first : (s : Side) (os : List Order) → AllLive s next os → InSequence rule os → BestFirst s os
  best_first s [] live seq = tt
  best_first s (o ∷ os) live seq = (all_no_worse s o os live.0 live.1 seq.0, best_first s os live.1 seq.1)

rise_push : (xs : List Order) (o : Order) → BestFirst Sell xs → All (λ x. x.price ≤ o.price) xs → BestFirst Sell (xs ++ o ∷ [])
rise_push [] o rise under = (tt, tt)
rise_push (x ∷ xs) o rise under = (All-push (λ y. x.price ≤ y.price) xs o rise.0 under.0, rise_push xs o rise.1 under.1)

rise_reverse : (os : List Order) → BestFirst Buy os → BestFirst Sell (reverse os)
rise_reverse [] fall = tt
rise_reverse (o ∷ os) fall = rw (reverse-cons o os) (rise_push (reverse os) o (rise_reverse os fall.1) (all_reverse (λ x. x.price ≤ o.price) os fall.0))

-- live orders' tonnes and prices
total_high : (s : Side) (next : ℕ) (os : List Order) → AllLive s next os → total os ≤ 50000 * length os
total_high s next [] live = omega arith
total_high s next (o ∷ os) live = let rest = total_high s next os live.1 in let a = live.0.no_more_than_entered in let b = live.0.quantity_high in omega arith

prices_low : (s : Side) (next : ℕ) (os : List Order) → AllLive s next os → All (λ o. 1 ≤ o.price) os
prices_low s next [] live = tt
prices_low s next (o ∷ os) live = (live.0.price_low, prices_low s next os live.1)

prices_high : (s : Side) (next : ℕ) (os : List Order) → AllLive s next os → All (λ o. o.price ≤ 100000) os
prices_high s next [] live = tt
prices_high s next (o ∷ os) live = (live.0.price_high, prices_high s next os live.1)

total_reverse : (os : List Order) → total (reverse os) ≡ total os
total_reverse [] = refl
total_reverse (o ∷ os) = let rest = total_reverse os in let both = total_both (reverse os) (o ∷ []) in ap total (reverse-cons o os) ∙ omega arith

-- a sweep begins at the price 1, and ends with the best of all prices
abbrev pub sweep_from : ℕ → ℕ → Sweep
sweep_from left bought = record { left = left; price = 1; demand = bought; supply = 0; best = unquoted }

pub swept_none : (rule : Rule) → Lawful rule → (b : Book) → Sound rule b → length b.buys ≤ 1024 → length b.sells ≤ 1024 → (left bought : ℕ) → left ≡ length b.buys → bought ≡ min (demand b.buys b.sells 1) (2 ^ 32 - 1) →
    Swept b [] (reverse b.buys) [] b.sells (sweep_from left bought)
swept_none rule lawful b sound few-buys few-sells left bought counts is =
    let low = all_reverse (λ o. 1 ≤ o.price) b.buys (prices_low Buy b.next b.buys sound.buys_live) in
    let all : demand b.buys b.sells 1 ≡ total (reverse b.buys) =
    demand_stays b.buys b.sells [] (reverse b.buys) 1 2 1 refl tt (All-weaker _ (λ o. 2 ≤ o.price + 1) (λ o u. omega arith) (reverse b.buys) low) (omega arith) (omega arith) in
    let same = total_reverse b.buys in
    let buys_high = total_high Buy b.next b.buys sound.buys_live in
    let sells_high = total_high Sell b.next b.sells sound.sells_live in
    record {
      buys_are = refl;
      sells_are = refl;
      left_is = counts ∙ sym (length-reverse b.buys);
      demand_is = omega arith;
      supply_is = refl;
      low = omega arith;
      high = omega arith;
      below_under = tt;
      above_over = All-weaker _ (λ o. 1 ≤ o.price + 1) (λ o u. omega arith) (reverse b.buys) low;
      sold_under = tt;
      unsold_over = prices_low Sell b.next b.sells sound.sells_live;
      buys_rise = rise_reverse b.buys (best_first rule lawful b.next Buy b.buys sound.buys_live sound.buys_in_sequence);
      sells_rise = best_first rule lawful b.next Sell b.sells sound.sells_live sound.sells_in_sequence;
      sells_high = prices_high Sell b.next b.sells sound.sells_live;
      sells_fit = omega arith;
      best_is = best_none (volume b.buys b.sells) (imbalance b.buys b.sells);
    }

pub swept_all : (b : Book) (sold unsold : List Order) (w : Sweep) → unsold ≡ [] → PassedTo 100000 b sold unsold w → BestBelow (volume b.buys b.sells) (imbalance b.buys b.sells) 100001 (better w.best (quote_at w))
swept_all b sold unsold w none p =
    let s = p.swept in
    let high = s.high in
    best_up b p.below p.above sold unsold w s 100001 (omega arith) (All-weaker _ (λ o. 100001 ≤ o.price + 1) (λ o u. omega arith) p.above p.all) (rw none tt)
