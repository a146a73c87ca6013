-- Whatever is asked of a sound book, it stays sound. Assumes nothing.
use Rattle.std.proofs.Common.{ℕ, ◌+◌, ◌≤◌, List, [], ◌∷◌, Some, None, Option, refl, le_refl, arith}
use Rattle.orders.specs.declared.request.Side.{Side}
use Rattle.orders.specs.declared.request.Side.TheVariants.{Buy, Sell}
use Rattle.orders.specs.declared.entry.Entry.{Entry}
use Rattle.orders.specs.declared.request.Request.{Request}
use Rattle.orders.specs.declared.request.Request.TheVariants.{Enter, Withdraw, Call, Halt}
use Rattle.orders.specs.declared.order.Phase.{Phase}
use Rattle.orders.specs.declared.order.Phase.TheVariants.{Gathering, Dealing}
use Rattle.orders.specs.declared.order.Order.{Order}
use Rattle.orders.specs.declared.order.Fill.{Fill}
use Rattle.plain.specs.Rule.{Rule, Lawful, with_remaining}
use Rattle.plain.specs.Orders.{find}
use Rattle.plain.specs.Book.{Book, Tape, fresh, side, resting, order, put, dealt_with, entered, entry_fills, withdrawn, call_fills, reply, from}
use Rattle.plain.specs.Sound.{LiveOrder, AllLive, NotNumbered, Distinct, Sound}
use Rattle.plain.specs.Promises.{AlwaysSound}
use Rattle.plain.proofs.Thinned.{Thinned, keep_thins, settled_thins, thinned_live, thinned_not_numbered, thinned_distinct, thinned_apart_right, thinned_apart_left, thinned_in_sequence}
use Rattle.plain.proofs.Placed.{placed_live, placed_distinct, placed_apart_left, placed_apart_right, placed_in_sequence}
use Rattle.plain.proofs.Rested.{left_tonnes, left_order, dealt_book, entered_both}

-- no live order has the next number
live_not_next : (side : Side) (next : ℕ) (os : List Order) → AllLive side next os → NotNumbered next os
live_not_next side next [] l = tt
live_not_next side next (o ∷ os) l = let below = l.0.numbered in ((λ e. omega arith), live_not_next side next os l.1)

pub next_is_new : {rule : Rule} {b : Book} → Sound rule b → (t : Side) → NotNumbered b.next (side t b)
next_is_new {b} s = elim [ Buy ↦ live_not_next Buy b.next b.buys s.buys_live | Sell ↦ live_not_next Sell b.next b.sells s.sells_live ]

pub sides_distinct : {rule : Rule} {b : Book} → Sound rule b → (t : Side) → Distinct (side t b)
sides_distinct s = elim [ Buy ↦ s.buys_distinct | Sell ↦ s.sells_distinct ]

-- what is left of an entry, whatever it dealt
left_live : (e : Entry) (n left : ℕ) → 1 ≤ left → left ≤ e.quantity → LiveOrder e.side (n + 1) (with_remaining (order e n) left)
left_live e n left some within =
    record {
      of_side = refl;
      numbered = omega arith;
      some_remains = some;
      no_more_than_entered = within;
      quantity_high = e.quantity_high;
      price_low = e.price_low;
      price_high = e.price_high;
      member_high = e.member_high;
    }

module _ {rule : Rule} (lawful : Lawful rule) where
  thinned_sound : (phase : Phase) (later : ℕ) {buys sells : List Order} (b : Book) → b.next ≤ later → Thinned b.buys buys →
      Thinned b.sells sells → Sound rule b →
      Sound rule (record { phase = phase; next = later; buys = buys; sells = sells })
  thinned_sound phase later {buys} {sells} b h t u s =
      record {
        buys_live = thinned_live Buy b.next later h t s.buys_live;
        sells_live = thinned_live Sell b.next later h u s.sells_live;
        buys_in_sequence = thinned_in_sequence lawful t s.buys_in_sequence;
        sells_in_sequence = thinned_in_sequence lawful u s.sells_in_sequence;
        buys_distinct = thinned_distinct t s.buys_distinct;
        sells_distinct = thinned_distinct u s.sells_distinct;
        sides_apart = thinned_apart_left sells t (thinned_apart_right b.buys u s.sides_apart);
      }

  pub dealt_sound : (phase : Phase) (later : ℕ) (fs : List Fill) (b : Book) → b.next ≤ later → Sound rule b → Sound rule (dealt_with phase later fs b)
  dealt_sound phase later fs b h = thinned_sound phase later b h (settled_thins Buy fs b.buys) (settled_thins Sell fs b.sells)

  put_sound : (side : Side) (o : Order) (b : Book) → LiveOrder side b.next o → NotNumbered o.number b.buys →
      NotNumbered o.number b.sells → Sound rule b →
      Sound rule (put rule side o b)
  put_sound Buy o b k m n s =
      record {
        buys_live = placed_live rule o Buy b.next k b.buys s.buys_live;
        sells_live = s.sells_live;
        buys_in_sequence = placed_in_sequence rule o lawful b.buys m s.buys_in_sequence;
        sells_in_sequence = s.sells_in_sequence;
        buys_distinct = placed_distinct rule o b.buys m s.buys_distinct;
        sells_distinct = s.sells_distinct;
        sides_apart = placed_apart_left rule o b.sells n b.buys s.sides_apart;
      }
  put_sound Sell o b k m n s =
      record {
        buys_live = s.buys_live;
        sells_live = placed_live rule o Sell b.next k b.sells s.sells_live;
        buys_in_sequence = s.buys_in_sequence;
        sells_in_sequence = placed_in_sequence rule o lawful b.sells n s.sells_in_sequence;
        buys_distinct = s.buys_distinct;
        sells_distinct = placed_distinct rule o b.sells n s.sells_distinct;
        sides_apart = placed_apart_right rule o b.sells b.buys m s.sides_apart;
      }

  entered_sound : (e : Entry) (b : Book) (fs : List Fill) → Sound rule b → Sound rule (entered rule e b fs).book
  entered_sound e b fs s =
      let sound = dealt_sound b.phase (b.next + 1) fs b (omega arith) s in
      let buys_new = thinned_not_numbered b.next (settled_thins Buy fs b.buys) (next_is_new s Buy) in
      let sells_new = thinned_not_numbered b.next (settled_thins Sell fs b.sells) (next_is_new s Sell) in
      entered_both rule e b fs (Sound rule)
      (λ _ some. put_sound e.side (left_order e b fs) (dealt_book b fs) (left_live e b.next (left_tonnes e fs) some (omega arith)) buys_new sells_new sound)
      (λ _. sound)

  withdrawn_sound : (n : ℕ) (b : Book) (found : Option Order) → Sound rule b → Sound rule (withdrawn n b found).book
  withdrawn_sound n b None s = s
  withdrawn_sound n b (Some o) s = thinned_sound b.phase b.next b (le_refl b.next) (keep_thins _ b.buys) (keep_thins _ b.sells) s

  rephased_sound : (phase : Phase) (b : Book) → Sound rule b → Sound rule (record { phase = phase; next = b.next; buys = b.buys; sells = b.sells })
  rephased_sound phase b s =
      record {
        buys_live = s.buys_live;
        sells_live = s.sells_live;
        buys_in_sequence = s.buys_in_sequence;
        sells_in_sequence = s.sells_in_sequence;
        buys_distinct = s.buys_distinct;
        sells_distinct = s.sells_distinct;
        sides_apart = s.sides_apart;
      }

  pub reply_sound : (b : Book) (q : Request) → Sound rule b → Sound rule (reply rule b q).book
  reply_sound b (Enter e) s = entered_sound e b (entry_fills b.phase e b) s
  reply_sound b (Withdraw c) s = withdrawn_sound c.number b (find c.number (resting b)) s
  reply_sound b Call s = dealt_sound Dealing b.next (call_fills b) b (le_refl b.next) s
  reply_sound b Halt s = rephased_sound Gathering b s

  from_sound : (b : Book) (t : Tape) → Sound rule b → Sound rule (from rule b t)
  from_sound b [] s = s
  from_sound b (q ∷ qs) s = from_sound (reply rule b q).book qs (reply_sound b q s)

pub fresh_sound : (rule : Rule) → Sound rule fresh
fresh_sound rule = record { buys_live = tt; sells_live = tt; buys_in_sequence = tt; sells_in_sequence = tt; buys_distinct = tt; sells_distinct = tt; sides_apart = tt }

pub always_sound : AlwaysSound
always_sound rule lawful t = from_sound lawful fresh t (fresh_sound rule)
