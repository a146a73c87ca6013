-- The fills that a sound book deals are the one list that meets the match laws, and the price of its call is the best.
use Rattle.std.proofs.Common.{◌≡◌, ℕ, ◌+◌, ◌≤◌, min, Bool, true, false, cond, eqb, ◌⊎◌, List, [], ◌∷◌, sym, refl, ap, ◌∙◌, subst, inl, inr, ⊎_elim, le_refl, arith}
use native.Mathlib.Nat.{min-zero}
use Rattle.std.proofs.lemmas.Bool.{eqb-true, eqb-false, lt-leb}
use Rattle.orders.specs.declared.request.Side.{Side}
use Rattle.orders.specs.declared.request.Side.TheVariants.{Buy, Sell}
use Rattle.orders.specs.declared.entry.Entry.{Entry}
use Rattle.orders.specs.declared.order.Order.{Order}
use Rattle.orders.specs.declared.order.Phase.TheVariants.{Dealing}
use Rattle.plain.specs.Rule.{Rule, Lawful, InSequence}
use Rattle.plain.specs.Orders.{keep, total, within, other}
use Rattle.plain.specs.Dealing.{Pricing, dealt}
use Rattle.plain.specs.Price.{demand, volume, BestPrice, best_price, call_volume}
use Rattle.plain.specs.Book.{Book, side, order, reach, price, call_fills, entry_fills, resting_price, entry_buyers, entry_sellers}
use Rattle.plain.specs.Matching.{MatchLaws}
use Rattle.plain.specs.Matched.{OneList, CallMatches, EntryMatches}
use Rattle.plain.specs.Promises.{FillsAreTheOneList, CallPriceIsBest}
use Rattle.plain.specs.Sound.{LiveOrder, AllLive, Distinct, Sound}
use Rattle.plain.proofs.Thinned.{keep_thins, thinned_live, thinned_distinct, thinned_in_sequence}
use Rattle.plain.proofs.Call.{call_fits}
use Rattle.plain.proofs.OneList.{one_list_of_fills}
use Rattle.plain.proofs.Price.{best_price_is_best}

-- no live sell is at 0 or less
no_supply : (next : ℕ) (os : List Order) → AllLive Sell next os → total (keep (within Buy 0) os) ≡ 0
no_supply next [] l = refl
no_supply next (o ∷ os) l = rw (lt-leb o.price 0 l.0.price_low) (no_supply next os l.1)

-- a call's price is 0 where nothing deals, and otherwise the best
module _ {rule : Rule} (b : Book) (sound : Sound rule b) where
  call_price_at : (z : Bool) → eqb (call_volume b.buys b.sells) 0 ≡ z →
      ((call_volume b.buys b.sells ≡ 0) × (cond z 0 (best_price b.buys b.sells) ≡ 0)) ⊎
      ((call_volume b.buys b.sells ≡ 0 → ⊥) × (cond z 0 (best_price b.buys b.sells) ≡ best_price b.buys b.sells))
  call_price_at true e = inl (eqb-true (call_volume b.buys b.sells) 0 e, refl)
  call_price_at false e = inr (eqb-false (call_volume b.buys b.sells) 0 e, refl)

  call_price : ((call_volume b.buys b.sells ≡ 0) × (price b ≡ 0)) ⊎ ((call_volume b.buys b.sells ≡ 0 → ⊥) × (price b ≡ best_price b.buys b.sells))
  call_price = call_price_at (eqb (call_volume b.buys b.sells) 0) refl

  call_volume_lem : volume b.buys b.sells (price b) ≡ call_volume b.buys b.sells
  call_volume_lem = ⊎_elim
      (λ h. ap (volume b.buys b.sells) h.1 ∙ ap (min (demand b.buys b.sells 0)) (no_supply b.next b.sells sound.sells_live) ∙ min-zero (demand b.buys b.sells 0) ∙ sym h.0)
      (λ h. ap (volume b.buys b.sells) h.1)
      call_price

pub call_price_is_best : CallPriceIsBest
call_price_is_best rule b sound =
    let p = best_price_is_best b.next b.buys b.sells sound.sells_live in
    record {
      most = p.most;
      deals = call_volume_lem b sound;
      best = λ l. ⊎_elim (λ h. absurd (omega (arith, h.0))) (λ h. subst (BestPrice b.buys b.sells) (sym h.1) p) (call_price b sound);
      none = λ z. ⊎_elim (λ h. h.1) (λ h. absurd (h.0 z)) (call_price b sound);
    }

-- orders that stand as those of a side of a sound book do
record Ranks (rule : Rule) (sd : Side) (next : ℕ) (os : List Order) : Type 0 where
  pub live : AllLive sd next os
  pub distinct : Distinct os
  pub in_sequence : InSequence rule os

one_list : {rule : Rule} → Lawful rule → (price : Pricing) (next n : ℕ) {buyers sellers : List Order} → Ranks rule Buy next buyers → Ranks rule Sell next sellers →
    n ≤ total buyers → n ≤ total sellers → OneList (MatchLaws rule price n buyers sellers) (dealt price n buyers sellers)
one_list {rule} lawful price next n {buyers} {sellers} x y high high' =
    one_list_of_fills rule lawful price next n buyers sellers x.live y.live x.distinct y.distinct x.in_sequence y.in_sequence high high'

module _ {rule : Rule} (lawful : Lawful rule) (b : Book) (sound : Sound rule b) where
  sides_rank : (sd : Side) → Ranks rule sd b.next (side sd b)
  sides_rank Buy = record { live = sound.buys_live; distinct = sound.buys_distinct; in_sequence = sound.buys_in_sequence }
  sides_rank Sell = record { live = sound.sells_live; distinct = sound.sells_distinct; in_sequence = sound.sells_in_sequence }

  kept_rank : (f : Order → Bool) (sd : Side) (later : ℕ) → b.next ≤ later → Ranks rule sd later (keep f (side sd b))
  kept_rank f sd later h =
      let ranks = sides_rank sd in
      let thins = keep_thins f (side sd b) in
      record { live = thinned_live sd b.next later h thins ranks.live; distinct = thinned_distinct thins ranks.distinct; in_sequence = thinned_in_sequence lawful thins ranks.in_sequence }

  call_fills_lem : OneList (CallMatches rule b (price b) (call_volume b.buys b.sells)) (call_fills b)
  call_fills_lem =
      let fits = call_fits b.buys b.sells in
      one_list lawful (λ _ _. price b) b.next (call_volume b.buys b.sells)
      (kept_rank (within Sell (price b)) Buy b.next (le_refl b.next)) (kept_rank (within Buy (price b)) Sell b.next (le_refl b.next)) fits.0 fits.1

  -- an entry's order beside the orders in its reach
  order_ranks : (e : Entry) (sd : Side) → e.side ≡ sd → Ranks rule sd (b.next + 1) (order e b.next ∷ [])
  order_ranks e sd s =
      let live : LiveOrder sd (b.next + 1) (order e b.next) = record {
        of_side = s;
        numbered = omega arith;
        some_remains = e.quantity_low;
        no_more_than_entered = le_refl e.quantity;
        quantity_high = e.quantity_high;
        price_low = e.price_low;
        price_high = e.price_high;
        member_high = e.member_high;
      } in
      record { live = (live, tt); distinct = (tt, tt); in_sequence = (tt, tt) }

  entry_fills_lem : (e : Entry) (sd : Side) → e.side ≡ sd →
      let os = keep (within sd e.price) (side (other sd) b) in
      let n = min e.quantity (total os) in
      let buyers = entry_buyers sd (order e b.next) os in
      let sellers = entry_sellers sd (order e b.next) os in
      OneList (MatchLaws rule (resting_price sd) n buyers sellers) (dealt (resting_price sd) n buyers sellers)
  entry_fills_lem e Buy s =
      one_list lawful (resting_price Buy) (b.next + 1) _ (order_ranks e Buy s) (kept_rank (within Buy e.price) Sell (b.next + 1) (omega arith)) (omega arith) (omega arith)
  entry_fills_lem e Sell s =
      one_list lawful (resting_price Sell) (b.next + 1) _ (kept_rank (within Sell e.price) Buy (b.next + 1) (omega arith)) (order_ranks e Sell s) (omega arith) (omega arith)

  entry_matches : (e : Entry) → e.minimum ≤ reach e b → OneList (EntryMatches rule b e) (entry_fills Dealing e b)
  entry_matches e high =
      let fills = entry_fills_lem e e.side refl in
      record { meets = record { minimum = high; fills = fills.meets }; only = λ gs laws. fills.only gs laws.fills }

pub fills_are_the_one_list : FillsAreTheOneList
fills_are_the_one_list rule lawful b sound = record { of_call = call_fills_lem lawful b sound; of_entry = entry_matches lawful b sound }
