-- No fill that a sound book deals has a price above 100,000.
use Rattle.std.proofs.Common.{◌≡◌, ℕ, zero, suc, ◌+◌, ◌≤◌, List, [], ◌∷◌, ◌++◌, Some, None, Option, sym, refl, subst, le_refl, arith}
use Rattle.orders.specs.declared.request.Side.{Side}
use Rattle.orders.specs.declared.request.Side.TheVariants.{Buy, Sell}
use Rattle.orders.specs.declared.entry.Entry.{Entry}
use Rattle.orders.specs.declared.request.Request.{Request}
use Rattle.orders.specs.declared.request.Request.TheVariants.{Enter, Withdraw, Call, Halt}
use Rattle.orders.specs.declared.order.Phase.{Phase}
use Rattle.orders.specs.declared.order.Phase.TheVariants.{Gathering, Dealing}
use Rattle.orders.specs.declared.order.Order.{Order}
use Rattle.orders.specs.declared.order.Fill.{Fill}
use Rattle.plain.specs.Rule.{Rule, Lawful}
use Rattle.plain.specs.Orders.{find, within}
use Rattle.plain.specs.Dealing.{Pricing}
use Rattle.plain.specs.Price.{call_volume}
use Rattle.plain.specs.Book.{Book, Tape, resting, order, in_reach, resting_price, entry_buyers, entry_sellers, entry_fills, withdrawn, price, call_buyers, call_sellers, call_fills, reply}
use Rattle.plain.specs.Matching.{AllBetween}
use Rattle.plain.specs.Gate.{refused_by, AdmittedFrom}
use Rattle.plain.specs.Sound.{LiveOrder, AllLive, Sound}
use Rattle.plain.specs.Account.{record_from}
use Rattle.plain.proofs.Members.{live_one}
use Rattle.plain.proofs.Capacity.{entry_reaches}
use Rattle.plain.proofs.StaysSound.{reply_sound}
use Rattle.plain.proofs.Matched.{fills_are_the_one_list, call_price_is_best}
use Rattle.claims.proofs.Holding.{kept_live, parties_live}
use Rattle.settlement.specs.Totals.{fills_in}

abbrev pub AllPriced : List Fill → Type 0
AllPriced [] = Unit {0}
AllPriced (f ∷ fs) = (f.price ≤ 100000) × AllPriced fs

priced_append : (fs gs : List Fill) → AllPriced fs → AllPriced gs → AllPriced (fs ++ gs)
priced_append [] gs h k = k
priced_append (f ∷ fs) gs h k = (h.0, priced_append fs gs h.1 k)

between_priced : (pricing : Pricing) (n : ℕ) (buyers sellers : List Order) → AllLive Buy n buyers → AllLive Sell n sellers → ((b s : Order) → LiveOrder Buy n b → LiveOrder Sell n s → pricing b s ≤ 100000) →
    (fs : List Fill) → AllBetween pricing buyers sellers fs → AllPriced fs
between_priced pricing n buyers sellers live live' high [] h = tt
between_priced pricing n buyers sellers live live' high (f ∷ fs) h =
    let one = h.0 in
    let low = high one.buyer one.seller (live_one Buy n buyers live one.buys) (live_one Sell n sellers live' one.sells) in
    (subst (λ p. p ≤ 100000) (sym one.price_is) low, between_priced pricing n buyers sellers live live' high fs h.1)

resting_high : (side : Side) (n : ℕ) (b s : Order) → LiveOrder Buy n b → LiveOrder Sell n s → resting_price side b s ≤ 100000
resting_high Buy n b s live live' = live'.price_high
resting_high Sell n b s live live' = live.price_high

-- a price that is at most 100,000 if anything deals, and else 0
at_most : (p v : ℕ) → (1 ≤ v → p ≤ 100000) → (v ≡ 0 → p ≡ 0) → p ≤ 100000
at_most p zero some none = let is = none refl in omega arith
at_most p (suc v) some none = some (omega arith)

withdrawn_priced : (n : ℕ) (b : Book) (o : Option Order) → AllPriced (withdrawn n b o).fills
withdrawn_priced n b None = tt
withdrawn_priced n b (Some o) = tt

module _ {rule : Rule} (lawful : Lawful rule) (capacity : ℕ) where
  module _ (b : Book) (sound : Sound rule b) where
    price_high : price b ≤ 100000
    price_high = let best = call_price_is_best rule b sound in at_most (price b) (call_volume b.buys b.sells) (λ some. (best.best some).high) best.none

    entry_priced : (e : Entry) (n : ℕ) (phase : Phase) → b.phase ≡ phase → refused_by capacity b (Enter e) n ≡ None → AllPriced (entry_fills phase e b)
    entry_priced e n Gathering p h = tt
    entry_priced e n Dealing p h =
        let one = (fills_are_the_one_list rule lawful b sound).of_entry e (entry_reaches capacity b n e h p) in
        let live = parties_live lawful b sound e e.side refl in
        between_priced (resting_price e.side) (b.next + 1) (entry_buyers e.side (order e b.next) (in_reach e b)) (entry_sellers e.side (order e b.next) (in_reach e b)) live.0 live.1
        (resting_high e.side (b.next + 1)) (entry_fills Dealing e b) one.meets.fills.between

    reply_priced : (q : Request) (n : ℕ) → refused_by capacity b q n ≡ None → AllPriced (reply rule b q).fills
    reply_priced (Enter e) n h = entry_priced e n b.phase refl h
    reply_priced (Withdraw c) n h = withdrawn_priced c.number b (find c.number (resting b))
    reply_priced Call n h =
        between_priced (λ _ _. price b) b.next (call_buyers b) (call_sellers b)
        (kept_live lawful b sound (within Sell (price b)) Buy b.next (le_refl b.next)) (kept_live lawful b sound (within Buy (price b)) Sell b.next (le_refl b.next))
        (λ _ _ _ _. price_high) (call_fills b) (fills_are_the_one_list rule lawful b sound).of_call.meets.between
    reply_priced Halt n h = tt

  pub record_priced : (b : Book) (t : Tape) → Sound rule b → AdmittedFrom rule capacity b t → AllPriced (fills_in (record_from rule b t))
  record_priced b [] sound a = tt
  record_priced b (q ∷ qs) sound a =
      priced_append (reply rule b q).fills (fills_in (record_from rule (reply rule b q).book qs)) (reply_priced b sound q a.0.0 a.0.1) (record_priced (reply rule b q).book qs (reply_sound lawful b q sound) a.1)
