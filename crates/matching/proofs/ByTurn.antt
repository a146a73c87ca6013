-- The fills of an entry, one after another from the first order opposite. Assumes nothing.
use Rattle.std.proofs.Common.{◌≡◌, ℕ, ◌+◌, ◌-◌, ◌<◌, ◌≤◌, min, leb, List, [], ◌∷◌, sym, refl, ap, ◌∙◌, ⊎_elim, arith}
use Rattle.std.proofs.lemmas.Bool.{cond-false, lt-leb, cases_lt}
use Rattle.orders.specs.declared.request.Side.{Side}
use Rattle.orders.specs.declared.request.Side.TheVariants.{Buy, Sell}
use Rattle.orders.specs.declared.order.Order.{Order}
use Rattle.orders.specs.declared.order.Fill.{Fill}
use Rattle.plain.specs.Rule.{with_remaining}
use Rattle.plain.specs.Orders.{total, other}
use Rattle.plain.specs.Dealing.{dealt}
use Rattle.plain.specs.Book.{resting_price, entry_buyers, entry_sellers}
use Rattle.plain.specs.Sound.{AllLive}
use Rattle.plain.proofs.Crossing.{cut_first, total_cut, dealt_nothing, BlindPricing, cross_more}
use Rattle.orders.specs.Entries.{taken}

-- the fills of so many tonnes of an order with those in its reach
abbrev pub fills_of : Side → Order → ℕ → List Order → List Fill
fills_of s o left os =
    dealt (resting_price s) (min left (total os)) (entry_buyers s (with_remaining o left) os) (entry_sellers s (with_remaining o left) os)

pub fills_none : (s : Side) (o : Order) (left : ℕ) (os : List Order) → min left (total os) ≡ 0 → fills_of s o left os ≡ []
fills_none s o left os e = dealt_nothing (resting_price s) (min left (total os)) (entry_buyers s (with_remaining o left) os) (entry_sellers s (with_remaining o left) os) e

resting_blind : (s : Side) → BlindPricing (resting_price s)
resting_blind Buy = record { buyer = λ b s k. refl; seller = λ b s k. refl }
resting_blind Sell = record { buyer = λ b s k. refl; seller = λ b s k. refl }

-- the buyers and the sellers of an order's own list and those in its reach
abbrev pick_buyers : Side → List Order → List Order → List Order
pick_buyers Buy own os = own
pick_buyers Sell own os = os

abbrev pick_sellers : Side → List Order → List Order → List Order
pick_sellers Buy own os = os
pick_sellers Sell own os = own

module _ (o : Order) (left q : ℕ) where
  -- the order's own list after q tonnes
  abbrev own : List Order
  own = cut_first q (with_remaining o left) []

  own_left : q < left → own ≡ with_remaining o (left - q) ∷ []
  own_left h = cond-false (leb left q) [] (with_remaining o (left - q) ∷ []) (lt-leb left q h)

  -- where dealing goes on with what is left of the order
  goes_on : (s : Side) (n : ℕ) (zs : List Order) → n ≡ min left (total zs + q) → q ≤ left →
      dealt (resting_price s) (n - q) (pick_buyers s own zs) (pick_sellers s own zs) ≡ fills_of s o (left - q) zs
  goes_on Buy n zs is fits =
      ⊎_elim
      (λ part. let same : n - q ≡ min (left - q) (total zs) = omega arith in
      ap (λ k. dealt (resting_price Buy) k own zs) same ∙ ap (λ os. dealt (resting_price Buy) (min (left - q) (total zs)) os zs) (own_left part))
      (λ whole. dealt_nothing (resting_price Buy) (n - q) own zs (omega arith) ∙ sym (fills_none Buy o (left - q) zs (omega arith)))
      (cases_lt q left)
  goes_on Sell n zs is fits =
      ⊎_elim
      (λ part. let same : n - q ≡ min (left - q) (total zs) = omega arith in
      ap (λ k. dealt (resting_price Sell) k zs own) same ∙ ap (dealt (resting_price Sell) (min (left - q) (total zs)) zs) (own_left part))
      (λ whole. dealt_nothing (resting_price Sell) (n - q) zs own (omega arith) ∙ sym (fills_none Sell o (left - q) zs (omega arith)))
      (cases_lt q left)

-- the first order opposite deals what it can, and the rest follows
pub fills_more : (s : Side) (o : Order) (next left q : ℕ) (x : Order) (xs : List Order) → 1 ≤ left → 1 ≤ x.remaining → AllLive (other s) next xs → q ≡ min left x.remaining →
    fills_of s o left (x ∷ xs) ≡ taken s o x q ∷ fills_of s o (left - q) (cut_first q x xs)
fills_more Buy o next left q x xs some remains live is =
    let n = min left (total (x ∷ xs)) in
    let cut = total_cut q x xs (omega arith) in
    cross_more (resting_price Buy) (resting_blind Buy) next n q (with_remaining o left) x [] xs (omega arith) some live (omega arith) ∙
    ap (λ fs. taken Buy o x q ∷ fs) (goes_on o left q Buy n (cut_first q x xs) (omega arith) (omega arith))
fills_more Sell o next left q x xs some remains live is =
    let n = min left (total (x ∷ xs)) in
    let cut = total_cut q x xs (omega arith) in
    cross_more (resting_price Sell) (resting_blind Sell) next n q x (with_remaining o left) xs [] (omega arith) remains tt (omega arith) ∙
    ap (λ fs. taken Sell o x q ∷ fs) (goes_on o left q Sell n (cut_first q x xs) (omega arith) (omega arith))
