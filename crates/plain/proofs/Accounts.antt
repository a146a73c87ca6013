-- The tonnes of a side before a request, with those that come, are those dealt, those after it and those that go. Assumes nothing.
use Rattle.std.proofs.Common.{◌≡◌, ℕ, ◌+◌, ◌-◌, Bool, false, cond, ◌&&◌, ltb, List, [], ◌∷◌, Some, None, Option, refl, ◌∙◌, arith}
use Rattle.std.proofs.lemmas.Bool.{cond_both}
use Rattle.std.proofs.lemmas.Bool.Decides.{nat_tests}
use Rattle.orders.specs.declared.request.Side.{Side}
use Rattle.orders.specs.declared.request.Side.TheVariants.{Buy, Sell}
use Rattle.orders.specs.declared.entry.Entry.{Entry}
use Rattle.orders.specs.declared.request.Request.{Request}
use Rattle.orders.specs.declared.request.Request.TheVariants.{Enter, Withdraw, Call, Halt}
use Rattle.orders.specs.declared.order.Phase.{Phase}
use Rattle.orders.specs.declared.order.Phase.TheVariants.{Dealing}
use Rattle.orders.specs.declared.order.Order.{Order}
use Rattle.orders.specs.declared.order.Fill.{Fill}
use Rattle.plain.specs.Rule.{Rule}
use Rattle.plain.specs.Orders.{keep, total, placed, find, within}
use Rattle.plain.specs.Dealing.{Pricing, tonnes, settled}
use Rattle.plain.specs.Price.{call_volume}
use Rattle.plain.specs.Book.{Book, side, resting, order, entry_fills, put, rests, dealt_with, entered, withdrawn, price, call_buyers, call_sellers, call_fills, reply}
use Rattle.plain.specs.Sound.{Sound}
use Rattle.plain.proofs.Kept.{total_keep}
use Rattle.plain.proofs.Sides.{pick, on_side, side_dealt, side_without, side_halted}
use Rattle.plain.proofs.Rested.{left_tonnes, left_order, dealt_book, entered_both}
use Rattle.plain.proofs.StaysSound.{sides_distinct}
use Rattle.plain.proofs.Given.{counted, Looks}
use Rattle.plain.proofs.Settling.{Blind, dealt_settles}
use Rattle.plain.proofs.Withdrawing.{Leaves, found_leaves}
use Rattle.plain.proofs.EntrySettles.{entry_settles}
use Rattle.plain.proofs.Call.{call_fits}

shared : (t s : Side) (x stays : Bool) (left : ℕ) →
    on_side t s (cond x (cond stays left 0) 0) + on_side t s (cond x (cond stays 0 left) 0) ≡ on_side t s (cond x left 0)
shared t s x stays left = grind arith

-- what is left of an entry is put to its side
placed_total : (p : Order → Bool) (rule : Rule) (o : Order) (xs : List Order) →
    total (keep p (placed rule o xs)) ≡ cond (p o) o.remaining 0 + total (keep p xs)
placed_total p rule o [] = total_keep p o []
placed_total p rule o (x ∷ xs) =
    cond_both (rule o x) (o ∷ x ∷ xs) (x ∷ placed rule o xs) (λ ys. total (keep p ys) ≡ cond (p o) o.remaining 0 + total (keep p (x ∷ xs)))
    (λ _. total_keep p o (x ∷ xs))
    (λ _. omega (arith, total_keep p x (placed rule o xs), total_keep p x xs, placed_total p rule o xs))

put_total : (p : Order → Bool) (rule : Rule) (t s : Side) (o : Order) (b : Book) →
    total (keep p (side t (put rule s o b))) ≡ on_side t s (cond (p o) o.remaining 0) + total (keep p (side t b))
put_total p rule Buy Buy o b = placed_total p rule o b.buys
put_total p rule Buy Sell o b = omega arith
put_total p rule Sell Buy o b = omega arith
put_total p rule Sell Sell o b = placed_total p rule o b.sells

none_left : (t s : Side) (x stays : Bool) (left : ℕ) → (stays && ltb 0 left) ≡ false → on_side t s (cond x (cond stays left 0) 0) ≡ 0
none_left t s x stays left h = grind (arith, nat_tests)

entered_total : (p : Order → Bool) → Blind p → (t : Side) (rule : Rule) (e : Entry) (b : Book) (fs : List Fill) →
    total (keep p (side t (entered rule e b fs).book)) ≡
    on_side t e.side (cond (p (order e b.next)) (cond (rests e.life) (e.quantity - tonnes fs) 0) 0) + total (keep p (settled t fs (side t b)))
entered_total p blind t rule e b fs =
    let o = order e b.next in
    let settled_side = side_dealt t b.phase (b.next + 1) fs b in
    entered_both rule e b fs
    (λ after. total (keep p (side t after)) ≡
    on_side t e.side (cond (p o) (cond (rests e.life) (left_tonnes e fs) 0) 0) + total (keep p (settled t fs (side t b))))
    (λ stays _. put_total p rule t e.side (left_order e b fs) (dealt_book b fs) ∙ rw (blind o (left_tonnes e fs), settled_side, stays))
    (λ goes. rw settled_side (omega (arith, none_left t e.side (p o) (rests e.life) (left_tonnes e fs) goes)))

-- a request's tonnes that come to a side, and that go from it undealt
abbrev pub comes : Side → (Order → Bool) → Book → Request → ℕ
comes t p b (Enter e) = on_side t e.side (cond (p (order e b.next)) e.quantity 0)
comes t p b (Withdraw c) = 0
comes t p b Call = 0
comes t p b Halt = 0

abbrev pub found_goes : Side → (Order → Bool) → Option Order → ℕ
found_goes t p None = 0
found_goes t p (Some o) = on_side t o.side (cond (p o) o.remaining 0)

abbrev pub goes : Side → (Order → Bool) → Book → Request → ℕ
goes t p b (Enter e) = on_side t e.side (cond (p (order e b.next)) (cond (rests e.life) 0 (e.quantity - tonnes (entry_fills b.phase e b))) 0)
goes t p b (Withdraw c) = found_goes t p (find c.number (resting b))
goes t p b Call = 0
goes t p b Halt = 0

-- at every request, for the orders of a side that pass a test
module _ (rule : Rule) (t : Side) (test : Fill → Bool) (p : Order → Bool) (looks : (price : Pricing) → Looks t price test p) (blind : Blind p) where
  entry_adds_up : (e : Entry) (b : Book) → Sound rule b →
      total (keep p (side t b)) + comes t p b (Enter e) ≡
      (counted test (reply rule b (Enter e)).fills + total (keep p (side t (reply rule b (Enter e)).book))) + goes t p b (Enter e)
  entry_adds_up e b s =
      let fs = entry_fills b.phase e b in
      omega (
        arith,
        entry_settles t test p looks blind b.phase e b s,
        entered_total p blind t rule e b fs,
        shared t e.side (p (order e b.next)) (rests e.life) (e.quantity - tonnes fs),
      )

  dealt_adds_up : (phase : Phase) (fs : List Fill) (b : Book) →
      total (keep p (side t b)) ≡ counted test fs + total (keep p (settled t fs (side t b))) →
      total (keep p (side t b)) + 0 ≡ (counted test fs + total (keep p (side t (dealt_with phase b.next fs b)))) + 0
  dealt_adds_up phase fs b h = rw (side_dealt t phase b.next fs b) (omega arith)

  call_adds_up : (b : Book) → Sound rule b →
      total (keep p (side t b)) ≡ counted test (call_fills b) + total (keep p (settled t (call_fills b) (side t b)))
  call_adds_up b s =
      let fits = call_fits b.buys b.sells in
      let q = pick t (within Sell (price b)) (within Buy (price b)) in
      dealt_settles (λ _ _. price b) (call_volume b.buys b.sells) (call_buyers b) (call_sellers b) fits.0 fits.1 t test p q
      (looks (λ _ _. price b)) blind (side t b) (sides_distinct s t)
      (elim t as (λ u. pick u (call_buyers b) (call_sellers b) ≡
      keep (pick u (within Sell (price b)) (within Buy (price b))) (side u b)) [ Buy ↦ refl | Sell ↦ refl ])

  withdrawn_adds_up : (n : ℕ) (b : Book) (found : Option Order) → Leaves n b found →
      total (keep p (side t b)) + 0 ≡
      (counted test (withdrawn n b found).fills + total (keep p (side t (withdrawn n b found).book))) + found_goes t p found
  withdrawn_adds_up n b None l = omega arith
  withdrawn_adds_up n b (Some o) l = rw (side_without t n b) (omega (arith, l.1 t p))

  pub adds_up : (b : Book) (q : Request) → Sound rule b →
      total (keep p (side t b)) + comes t p b q ≡
      (counted test (reply rule b q).fills + total (keep p (side t (reply rule b q).book))) + goes t p b q
  adds_up b (Enter e) s = entry_adds_up e b s
  adds_up b (Withdraw c) s = withdrawn_adds_up c.number b (find c.number (resting b)) (found_leaves c.number b s)
  adds_up b Call s = dealt_adds_up Dealing (call_fills b) b (call_adds_up b s)
  adds_up b Halt s = rw (side_halted t b) (omega arith)
