-- What an entry's fills leave of each side. Assumes nothing.
use Rattle.std.proofs.Common.{◌≡◌, ℕ, ◌+◌, ◌-◌, ◌≤◌, Bool, cond, List, [], ◌∷◌, sym, ap, ◌∙◌, arith}
use Rattle.orders.specs.declared.request.Side.{Side}
use Rattle.orders.specs.declared.request.Side.TheVariants.{Buy, Sell}
use Rattle.orders.specs.declared.entry.Entry.{Entry}
use Rattle.orders.specs.declared.order.Phase.{Phase}
use Rattle.orders.specs.declared.order.Order.{Order}
use Rattle.orders.specs.declared.order.Fill.{Fill}
use Rattle.plain.specs.Orders.{keep, total, within, other}
use Rattle.plain.specs.Dealing.{Pricing, given, tonnes, settled}
use Rattle.plain.specs.Book.{Book, order, resting_price, entry_fills, side}
use Rattle.plain.specs.Rule.{Rule}
use Rattle.plain.specs.Sound.{NotNumbered, Distinct, Sound}
use Rattle.plain.proofs.Kept.{numbered, numbered_itself, total_keep, none_numbered}
use Rattle.plain.proofs.Sides.{on_side}
use Rattle.plain.proofs.StaysSound.{next_is_new, sides_distinct}
use Rattle.plain.proofs.Given.{counted, Looks}
use Rattle.plain.proofs.Settling.{Blind, settled_first}
use Rattle.plain.proofs.Entry.{dealt_at, own_list, their_list, dealt_at_tonnes, own_given, dealt_at_settles, entry_tonnes, entry_dealt, entry_within_order, entry_within_reach}

alone : (o : Order) (os : List Order) → NotNumbered o.number os → keep (numbered o.number) (o ∷ os) ≡ o ∷ []
alone o os h = rw (numbered_itself o) (ap (λ xs. o ∷ xs) (none_numbered o.number os h))

-- k tonnes of an order that is new to its side, of the other side's orders that pass a test
record Entering (s : Side) (o : Order) (k : ℕ) (q : Order → Bool) (b : Book) : Type 0 where
  new : NotNumbered o.number (side s b)
  distinct : (t : Side) → Distinct (side t b)
  within_order : k ≤ o.remaining
  within_reach : k ≤ total (keep q (side (other s) b))

module _ (s : Side) (o : Order) (k : ℕ) (q : Order → Bool) (b : Book) (h : Entering s o k q b) where
  abbrev reached : List Order
  reached = keep q (side (other s) b)

  abbrev fs : List Fill
  fs = dealt_at s o k reached

  module _ (test : Fill → Bool) (p : Order → Bool) (blind : Blind p) where
    own_side : Looks s (resting_price s) test p →
        total (keep p (side s b)) + cond (p o) o.remaining 0 ≡
        (counted test fs + total (keep p (settled s fs (side s b)))) + cond (p o) (o.remaining - tonnes fs) 0
    own_side looks =
        let before = total_keep p o (side s b) in
        let all = dealt_at_settles s o k reached h.within_order h.within_reach s test p (numbered o.number) looks blind (o ∷ side s b)
        (h.new, h.distinct s) (own_list s o reached ∙ sym (alone o (side s b) h.new)) in
        let after = settled_first p blind s fs o (side s b) in
        let left : cond (p o) (o.remaining - tonnes fs) 0 ≡ cond (p o) (o.remaining - given s o.number fs) 0 =
        rw (own_given s o k reached h.within_order h.within_reach, dealt_at_tonnes s o k reached h.within_order h.within_reach) in
        omega arith

    their_side : Looks (other s) (resting_price s) test p →
        total (keep p (side (other s) b)) ≡ counted test fs + total (keep p (settled (other s) fs (side (other s) b)))
    their_side looks = dealt_at_settles s o k reached h.within_order h.within_reach (other s) test p q looks blind (side (other s) b)
        (h.distinct (other s)) (their_list s o reached)

-- what an entry's fills do to a side
side_deals : (t s : Side) (o : Order) (k : ℕ) (q : Order → Bool) (b : Book) (h : Entering s o k q b) (test : Fill → Bool) (p : Order → Bool) →
    Blind p →
    Looks t (resting_price s) test p →
    total (keep p (side t b)) + on_side t s (cond (p o) o.remaining 0) ≡
    (counted test (fs s o k q b h) + total (keep p (settled t (fs s o k q b h) (side t b)))) +
    on_side t s (cond (p o) (o.remaining - tonnes (fs s o k q b h)) 0)
side_deals Buy Buy o k q b h test p blind looks = own_side Buy o k q b h test p blind looks
side_deals Buy Sell o k q b h test p blind looks = omega (arith, their_side Sell o k q b h test p blind looks)
side_deals Sell Buy o k q b h test p blind looks = omega (arith, their_side Buy o k q b h test p blind looks)
side_deals Sell Sell o k q b h test p blind looks = own_side Sell o k q b h test p blind looks

entering : {rule : Rule} (phase : Phase) (e : Entry) (b : Book) → Sound rule b →
    Entering e.side (order e b.next) (entry_tonnes phase e b) (within e.side e.price) b
entering phase e b s =
    record {
      new = next_is_new s e.side;
      distinct = sides_distinct s;
      within_order = entry_within_order phase e b;
      within_reach = entry_within_reach phase e b;
    }

-- what an entry's fills do to a side of a sound book
pub entry_settles : {rule : Rule} (t : Side) (test : Fill → Bool) (p : Order → Bool) → ((price : Pricing) → Looks t price test p) → Blind p →
    (phase : Phase) (e : Entry) (b : Book) → Sound rule b →
    total (keep p (side t b)) + on_side t e.side (cond (p (order e b.next)) e.quantity 0) ≡
    (counted test (entry_fills phase e b) + total (keep p (settled t (entry_fills phase e b) (side t b)))) +
    on_side t e.side (cond (p (order e b.next)) (e.quantity - tonnes (entry_fills phase e b)) 0)
entry_settles t test p looks blind phase e b s =
    rw (entry_dealt phase e b)
    (side_deals t e.side (order e b.next) (entry_tonnes phase e b) (within e.side e.price) b (entering phase e b s) test p blind
    (looks (resting_price e.side)))
