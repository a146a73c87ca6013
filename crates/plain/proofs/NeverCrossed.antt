-- The book is never crossed while dealing. Assumes nothing.
use Rattle.std.proofs.Common.{◌≡◌, ℕ, ◌+◌, ◌<◌, ◌≤◌, true, false, List, [], ◌∷◌, Some, None, Option, ap, ◌∙◌, inl, inr, arith}
use mathlib.Core.List.Memᴰ
use mathlib.Core.List.{Memᴰ}
use Rattle.std.proofs.lemmas.Bool.{cases_Bool, leb-false}
use Rattle.orders.specs.declared.request.Side.{Side}
use Rattle.orders.specs.declared.request.Side.TheVariants.{Buy, Sell}
use Rattle.orders.specs.declared.entry.Entry.{Entry}
use Rattle.orders.specs.declared.request.Request.{Request}
use Rattle.orders.specs.declared.request.Request.TheVariants.{Enter, Withdraw, Call, Halt}
use Rattle.orders.specs.declared.order.Phase.{Phase}
use Rattle.orders.specs.declared.order.Phase.TheVariants.{Gathering, Dealing}
use Rattle.orders.specs.declared.order.Order.{Order}
use Rattle.orders.specs.declared.order.Fill.{Fill}
use Rattle.plain.specs.Rule.{Rule, Lawful}
use Rattle.plain.specs.Orders.{keep, find, within, other}
use Rattle.plain.specs.Dealing.{given, tonnes, settled}
use Rattle.plain.specs.Book.{Book, Tape, fresh, side, resting, in_reach, order, entry_fills, put, withdrawn, reply, from}
use Rattle.plain.specs.Sound.{Sound, Uncrossed, UncrossedWhileDealing}
use Rattle.plain.specs.Promises.{NeverCrossedWhileDealing}
use Rattle.plain.proofs.Kept.{numbered, numbered_itself, kept_one, one_in_total}
use Rattle.plain.proofs.Sides.{side_dealt}
use Rattle.plain.proofs.Thinned.{Thinned, keep_thins, settled_thins, thinned_one}
use Rattle.plain.proofs.Placed.{placed_one}
use Rattle.plain.proofs.Rested.{left_order, dealt_book, entered_both}
use Rattle.plain.proofs.StaysSound.{reply_sound, fresh_sound}
use Rattle.plain.proofs.Portions.{takes_whole}
use Rattle.plain.proofs.Entry.{dealt_at_tonnes, their_given, entry_tonnes, entry_within_order, entry_within_reach}
use Rattle.plain.proofs.Left.{left_when_settled}
use Rattle.plain.proofs.Crossed.{call_leaves_nothing_crossed}

-- fewer orders are uncrossed if more are
thinned_uncrossed : (phase : Phase) (next : ℕ) {buys sells : List Order} (b : Book) → Thinned b.buys buys → Thinned b.sells sells → Uncrossed b →
    Uncrossed (record { phase = phase; next = next; buys = buys; sells = sells })
thinned_uncrossed phase next b t u un x y mx my =
    let from_buy = thinned_one t mx in
    let from_sell = thinned_one u my in
    omega (arith, un from_buy.0 from_sell.0 from_buy.1 from_sell.1)

-- no order of a list lies within a limit
abbrev Clear : Side → ℕ → List Order → Type 0
Clear s limit os = (o : Order) → Memᴰ o os → within s limit o ≡ false

within_by_price : (s : Side) (limit : ℕ) (x y : Order) → x.price ≡ y.price → within s limit x ≡ within s limit y
within_by_price Buy limit x y e = rw e
within_by_price Sell limit x y e = rw e

-- an entry that deals less than its tonnes leaves nothing in its reach
module _ (e : Entry) (b : Book) where
  abbrev fs : List Fill
  fs = entry_fills Dealing e b

  given_whole : tonnes fs < e.quantity → (x : Order) → Memᴰ x (side (other e.side) b) → within e.side e.price x ≡ true →
      x.remaining ≤ given (other e.side) x.number fs
  given_whole short x m lies =
      let k = entry_tonnes Dealing e b in
      let o = order e b.next in
      let own = entry_within_order Dealing e b in
      let theirs = entry_within_reach Dealing e b in
      let all = dealt_at_tonnes e.side o k (in_reach e b) own theirs in
      let got = their_given e.side o k (in_reach e b) own theirs x.number in
      let whole = takes_whole (numbered x.number) k (in_reach e b) (omega arith) in
      let reached = kept_one (within e.side e.price) (side (other e.side) b) m lies in
      let itself = kept_one (numbered x.number) (in_reach e b) reached (numbered_itself x) in
      omega (arith, one_in_total (keep (numbered x.number) (in_reach e b)) itself)

  dealing_clears : tonnes fs < e.quantity → Clear e.side e.price (settled (other e.side) fs (side (other e.side) b))
  dealing_clears short y m =
      let left = left_when_settled (other e.side) fs (side (other e.side) b) y m in
      elim (cases_Bool (within e.side e.price left.order)) [
        | inl t ↦ absurd (omega (arith, given_whole short left.order left.among t))
        | inr f ↦ within_by_price e.side e.price y left.order (cc) ∙ f
      ]

entry_clears : (phase : Phase) (e : Entry) (b : Book) → phase ≡ Dealing → tonnes (entry_fills phase e b) < e.quantity →
    Clear e.side e.price (settled (other e.side) (entry_fills phase e b) (side (other e.side) b))
entry_clears Gathering e b dealing short = let never : ◌≡◌ {A = ℕ} 0 1 = cc in absurd (omega arith)
entry_clears Dealing e b dealing short = dealing_clears e b short

module _ (rule : Rule) where
  -- an order that reaches none of the other side's crosses nothing
  put_uncrossed : (s : Side) (o : Order) (b : Book) → UncrossedWhileDealing b → (b.phase ≡ Dealing → Clear s o.price (side (other s) b)) →
      UncrossedWhileDealing (put rule s o b)
  put_uncrossed Buy o b un clear dealing x y mx my =
      elim (placed_one rule o b.buys mx) [
        | inl e ↦ omega (arith, ap (λ (z : Order). z.price) e, leb-false y.price o.price (clear dealing y my))
        | inr m ↦ un dealing x y m my
      ]
  put_uncrossed Sell o b un clear dealing x y mx my =
      elim (placed_one rule o b.sells my) [
        | inl e ↦ omega (arith, ap (λ (z : Order). z.price) e, leb-false o.price x.price (clear dealing x mx))
        | inr m ↦ un dealing x y mx m
      ]

  entered_uncrossed : (e : Entry) (b : Book) → UncrossedWhileDealing b → UncrossedWhileDealing (reply rule b (Enter e)).book
  entered_uncrossed e b un =
      let fs = entry_fills b.phase e b in
      let before : UncrossedWhileDealing (dealt_book b fs) =
      λ dealing. thinned_uncrossed b.phase (b.next + 1) b (settled_thins Buy fs b.buys) (settled_thins Sell fs b.sells) (un dealing) in
      entered_both rule e b fs UncrossedWhileDealing
      (λ _ some. put_uncrossed e.side (left_order e b fs) (dealt_book b fs) before
      (λ dealing. rw (side_dealt (other e.side) b.phase (b.next + 1) fs b) (entry_clears b.phase e b dealing (omega arith))))
      (λ _. before)

  withdrawn_uncrossed : (n : ℕ) (b : Book) (found : Option Order) → UncrossedWhileDealing b → UncrossedWhileDealing (withdrawn n b found).book
  withdrawn_uncrossed n b None un = un
  withdrawn_uncrossed n b (Some o) un = λ dealing. thinned_uncrossed b.phase b.next b (keep_thins _ b.buys) (keep_thins _ b.sells) (un dealing)

  module _ (lawful : Lawful rule) where
    reply_uncrossed : (b : Book) (q : Request) → Sound rule b → UncrossedWhileDealing b → UncrossedWhileDealing (reply rule b q).book
    reply_uncrossed b (Enter e) s un = entered_uncrossed e b un
    reply_uncrossed b (Withdraw c) s un = withdrawn_uncrossed c.number b (find c.number (resting b)) un
    reply_uncrossed b Call s un = λ _. call_leaves_nothing_crossed rule lawful b s
    reply_uncrossed b Halt s un = λ dealing. let never : ◌≡◌ {A = ℕ} 0 1 = cc in absurd (omega arith)

    from_uncrossed : (b : Book) (t : Tape) → Sound rule b → UncrossedWhileDealing b → UncrossedWhileDealing (from rule b t)
    from_uncrossed b [] s un = un
    from_uncrossed b (q ∷ qs) s un = from_uncrossed (reply rule b q).book qs (reply_sound lawful b q s) (reply_uncrossed b q s un)

pub never_crossed_while_dealing : NeverCrossedWhileDealing
never_crossed_while_dealing rule lawful t = from_uncrossed rule lawful fresh t (fresh_sound rule) (λ _ x y m. absurd (Memᴰ.not-nil m))
