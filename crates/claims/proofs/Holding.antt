-- An entry's or a call's fills hold exactly when they agree with the orders. Assumes nothing.
use Rattle.std.proofs.Common.{◌≡◌, ℕ, ◌+◌, ◌≤◌, min, Bool, ◌&&◌, eqb, leb, List, [], ◌∷◌, length, Decides, sym, refl, ap, ◌∙◌, subst, le_refl, arith}
use Rattle.std.proofs.lemmas.Bool.{leb-true, le-leb}
use Rattle.std.proofs.lemmas.Bool.Decides.{Decides-at, Decides-like, Decides-and, Decides-eqb}
use Rattle.orders.specs.declared.request.Side.{Side}
use Rattle.orders.specs.declared.request.Side.TheVariants.{Buy, Sell}
use Rattle.orders.specs.declared.entry.Entry.{Entry}
use Rattle.orders.specs.declared.order.Phase.TheVariants.{Dealing}
use Rattle.orders.specs.declared.order.Order.{Order}
use Rattle.orders.specs.declared.order.Fill.{Fill}
use Rattle.plain.specs.Rule.{Rule, Lawful}
use Rattle.plain.specs.Orders.{keep, within, other}
use Rattle.plain.specs.Dealing.{dealt}
use Rattle.plain.specs.Price.{call_volume}
use Rattle.plain.specs.Book.{Book, side, order, in_reach, reach, resting_price, entry_buyers, entry_sellers, entry_fills, price}
use Rattle.plain.specs.Sound.{LiveOrder, AllLive, Sound}
use Rattle.plain.specs.Matched.{EntryMatches, CallMatches}
use Rattle.plain.proofs.Crossing.{BlindPricing}
use Rattle.plain.proofs.Thinned.{keep_thins, thinned_live}
use Rattle.plain.proofs.Matched.{fills_are_the_one_list}
use Rattle.replay.specs.Fills.{agrees}
use Rattle.replay.specs.Quotes.{called_price}
use Rattle.replay.specs.Agreeing.{deals_with, entry_agrees, call_agrees}
use Rattle.replay.proofs.Agreed.{agrees_decides}
use Rattle.replay.proofs.Called.{uncapped, best_quote_is}
use Rattle.claims.specs.Judged.{CallHolds}

resting_blind : (s : Side) → BlindPricing (resting_price s)
resting_blind Buy = record { buyer = λ b s k. refl; seller = λ b s k. refl }
resting_blind Sell = record { buyer = λ b s k. refl; seller = λ b s k. refl }

decides_leb : (a b : ℕ) → Decides (leb a b) (a ≤ b)
decides_leb a b = (leb-true a b, le-leb a b)

module _ {rule : Rule} (lawful : Lawful rule) (b : Book) (sound : Sound rule b) where
  side_live : (s : Side) → AllLive s b.next (side s b)
  side_live Buy = sound.buys_live
  side_live Sell = sound.sells_live

  pub kept_live : (f : Order → Bool) (s : Side) (later : ℕ) → b.next ≤ later → AllLive s later (keep f (side s b))
  kept_live f s later h = thinned_live s b.next later h (keep_thins f (side s b)) (side_live s)

  -- an entry
  module _ (e : Entry) where
    order_live : (s : Side) → e.side ≡ s → AllLive s (b.next + 1) (order e b.next ∷ [])
    order_live s is =
        let live : LiveOrder s (b.next + 1) (order e b.next) = record {
          of_side = is;
          numbered = omega arith;
          some_remains = e.quantity_low;
          no_more_than_entered = le_refl e.quantity;
          quantity_high = e.quantity_high;
          price_low = e.price_low;
          price_high = e.price_high;
          member_high = e.member_high;
        } in
        (live, tt)

    pub parties_live : (s : Side) → e.side ≡ s →
        let os = keep (within s e.price) (side (other s) b) in
        AllLive Buy (b.next + 1) (entry_buyers s (order e b.next) os) × AllLive Sell (b.next + 1) (entry_sellers s (order e b.next) os)
    parties_live Buy is = (order_live Buy is, kept_live (within Buy e.price) Sell (b.next + 1) (omega arith))
    parties_live Sell is = (kept_live (within Sell e.price) Buy (b.next + 1) (omega arith), order_live Sell is)

    entry_deals : (fs : List Fill) → Decides (deals_with e b.next (reach e b) (in_reach e b) fs) (fs ≡ entry_fills Dealing e b)
    entry_deals fs =
        let live = parties_live e.side refl in
        agrees_decides (resting_price e.side) (resting_blind e.side) (b.next + 1) (min e.quantity (reach e b)) (entry_buyers e.side (order e b.next) (in_reach e b)) (entry_sellers e.side (order e b.next) (in_reach e b)) fs live.0 live.1

    pub entry_decides : (fs : List Fill) → length (side (other e.side) b) ≤ 1024 → Decides (entry_agrees e b.next (side (other e.side) b) fs) (EntryMatches rule b e fs)
    entry_decides fs few =
        let fits = uncapped (within e.side e.price) (other e.side) b.next (side (other e.side) b) (side_live (other e.side)) few in
        let one = (fills_are_the_one_list rule lawful b sound).of_entry e in
        Decides-at (entry_agrees e b.next (side (other e.side) b) fs) (leb e.minimum (reach e b) && deals_with e b.next (reach e b) (in_reach e b) fs)
        (ap (λ n. leb e.minimum n && deals_with e b.next n (in_reach e b) fs) fits)
        (Decides-like (leb e.minimum (reach e b) && deals_with e b.next (reach e b) (in_reach e b) fs)
        (λ h. subst (EntryMatches rule b e) (sym h.1) (one h.0).meets)
        (λ m. (m.minimum, (one m.minimum).only fs m))
        (Decides-and (leb e.minimum (reach e b)) (deals_with e b.next (reach e b) (in_reach e b) fs) (decides_leb e.minimum (reach e b)) (entry_deals fs)))

  -- a call
  abbrev call_dealt : (p v : ℕ) → List Fill
  call_dealt p v = dealt (λ _ _. p) v (keep (within Sell p) b.buys) (keep (within Buy p) b.sells)

  abbrev call_deals_with : (p v : ℕ) → List Fill → Bool
  call_deals_with p v = agrees (λ _ _. p) v (keep (within Sell p) b.buys) (keep (within Buy p) b.sells)

  call_deals : (p v : ℕ) (fs : List Fill) → Decides (call_deals_with p v fs) (fs ≡ call_dealt p v)
  call_deals p v fs =
      agrees_decides (λ _ _. p) (record { buyer = λ b s k. refl; seller = λ b s k. refl }) b.next v (keep (within Sell p) b.buys) (keep (within Buy p) b.sells) fs
      (kept_live (within Sell p) Buy b.next (le_refl b.next)) (kept_live (within Buy p) Sell b.next (le_refl b.next))

  -- fills at a price and a volume that are those of the call
  same_fills : (p v p' v' : ℕ) → p ≡ p' → v ≡ v' → call_dealt p v ≡ call_dealt p' v'
  same_fills p v p' v' is is' = ap (λ x. call_dealt x v) is ∙ ap (call_dealt p') is'

  same_laws : (p v p' v' : ℕ) (fs : List Fill) → p ≡ p' → v ≡ v' → CallMatches rule b p v fs → CallMatches rule b p' v' fs
  same_laws p v p' v' fs is is' laws = subst (λ x. CallMatches rule b p' x fs) is' (subst (λ x. CallMatches rule b x v fs) is laws)

  pub call_decides : (p v : ℕ) (fs : List Fill) → length b.buys ≤ 1024 → length b.sells ≤ 1024 → Decides (call_agrees p v b.buys b.sells fs) (CallHolds rule b p v fs)
  call_decides p v fs few few' =
      let best = best_quote_is b.next b.buys b.sells sound.buys_live sound.sells_live few few' in
      let one = (fills_are_the_one_list rule lawful b sound).of_call in
      let volume = call_volume b.buys b.sells in
      let rest = eqb v volume && call_deals_with p v fs in
      Decides-at (call_agrees p v b.buys b.sells fs) (eqb p (price b) && rest)
      (ap (λ q. eqb p (called_price q) && (eqb v q.volume && call_deals_with p v fs)) best)
      (Decides-like (eqb p (price b) && rest)
      (λ h. record {
        price_is = h.0;
        volume_is = h.1.0;
        fills = same_laws (price b) volume p v fs (sym h.0) (sym h.1.0) (subst (CallMatches rule b (price b) volume) (sym (h.1.1 ∙ same_fills p v (price b) volume h.0 h.1.0)) one.meets);
      })
      (λ m. (m.price_is, (m.volume_is, one.only fs (same_laws p v (price b) volume fs m.price_is m.volume_is m.fills) ∙ sym (same_fills p v (price b) volume m.price_is m.volume_is))))
      (Decides-and (eqb p (price b)) rest (Decides-eqb p (price b)) (Decides-and (eqb v volume) (call_deals_with p v fs) (Decides-eqb v volume) (call_deals p v fs))))
