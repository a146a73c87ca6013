-- What a member bought and what rests of his buys is what he holds. Assumes nothing.
use Rattle.std.proofs.Common.{◌≡◌, ℕ, ◌+◌, ◌-◌, Bool, true, false, cond, not, eqb, List, [], ◌∷◌, Some, None, Option, refl, ap, ◌∙◌, arith}
use Rattle.std.proofs.lemmas.Bool.{eqb-true}
use Rattle.orders.specs.declared.request.Side.{Side}
use Rattle.orders.specs.declared.request.Side.TheVariants.{Buy, Sell}
use Rattle.orders.specs.declared.request.Request.{Request}
use Rattle.orders.specs.declared.request.Request.TheVariants.{Enter, Withdraw, Call, Halt}
use Rattle.orders.specs.declared.order.Order.{Order}
use Rattle.orders.specs.declared.order.Fill.{Fill}
use Rattle.orders.specs.declared.refusal.Cause.TheVariants.{NoSuchOrder}
use Rattle.plain.specs.Rule.{Rule, Lawful}
use Rattle.plain.specs.Orders.{find}
use Rattle.plain.specs.Dealing.{tonnes}
use Rattle.plain.specs.Book.{Book, Tape, fresh, resting, rests, entry_fills, withdrawn, reply, from}
use Rattle.orders.specs.Causes.{when}
use Rattle.plain.specs.Gate.{not_his, refused_by, AdmittedFrom}
use Rattle.plain.specs.Sound.{Sound}
use Rattle.plain.specs.Account.{record_from, bought_in, bought, resting_to_buy}
use Rattle.plain.specs.Held.{of_buy, cancelled_buy, to_buy, unbought, held_from}
use Rattle.plain.specs.Promises.{HeldIsBoughtAndResting}
use Rattle.plain.proofs.Sides.{on_side}
use Rattle.plain.proofs.StaysSound.{reply_sound, fresh_sound}
use Rattle.plain.proofs.Given.{counted}
use Rattle.plain.proofs.Accounts.{comes, found_goes, goes, adds_up}

abbrev member_is : ℕ → Order → Bool
member_is m o = eqb o.member m

abbrev buyer_is : ℕ → Fill → Bool
buyer_is m f = eqb f.buyer m

bought_counted : (m : ℕ) (fs : List Fill) → bought_in m fs ≡ counted (buyer_is m) fs
bought_counted m [] = refl
bought_counted m (f ∷ fs) = rw (bought_counted m fs)

-- tonnes of a test and of a side, in either order
buy_tonnes : (s : Side) (x : Bool) (n : ℕ) → on_side Buy s (cond x n 0) ≡ cond x (of_buy s n) 0
buy_tonnes Buy x n = refl
buy_tonnes Sell x n = grind arith

comes_in : (m : ℕ) (b : Book) (q : Request) → comes Buy (member_is m) b q ≡ to_buy m q
comes_in m b (Enter e) = buy_tonnes e.side (eqb e.member m) e.quantity
comes_in m b (Withdraw c) = refl
comes_in m b Call = refl
comes_in m b Halt = refl

-- a cancel that is admitted is of the member's own order
not_refused : (his : Bool) → when (not his) NoSuchOrder ≡ None → his ≡ true
not_refused true h = refl
not_refused false h = cc

own_goes_out : (m n by : ℕ) (b : Book) (found : Option Order) → when (not_his by found) NoSuchOrder ≡ None →
    found_goes Buy (member_is m) found ≡ cond (eqb by m) (cancelled_buy (withdrawn n b found).answer) 0
own_goes_out m n by b None h = grind arith
own_goes_out m n by b (Some o) h =
    let his = eqb-true o.member by (not_refused (eqb o.member by) h) in
    buy_tonnes o.side (eqb o.member m) o.remaining ∙ ap (λ k. cond (eqb k m) (of_buy o.side o.remaining) 0) his

goes_out : (rule : Rule) (m capacity n : ℕ) (b : Book) (q : Request) → refused_by capacity b q n ≡ None →
    goes Buy (member_is m) b q ≡ unbought m q (reply rule b q).answer
goes_out rule m capacity n b (Enter e) h =
    buy_tonnes e.side (eqb e.member m) (cond (rests e.life) 0 (e.quantity - tonnes (entry_fills b.phase e b)))
goes_out rule m capacity n b (Withdraw c) h = own_goes_out m c.number c.member b (find c.number (resting b)) h
goes_out rule m capacity n b Call h = refl
goes_out rule m capacity n b Halt h = refl

module _ {rule : Rule} (m capacity : ℕ) where
  -- at every request that is admitted
  buys_add_up : (b : Book) (q : Request) (n : ℕ) → Sound rule b → refused_by capacity b q n ≡ None →
      resting_to_buy m b + to_buy m q ≡
      (bought_in m (reply rule b q).fills + resting_to_buy m (reply rule b q).book) + unbought m q (reply rule b q).answer
  buys_add_up b q n s h =
      rw (bought_counted m (reply rule b q).fills, ← (comes_in m b q), ← (goes_out rule m capacity n b q h))
      (adds_up rule Buy (buyer_is m) (member_is m) (λ _ _ _ _. refl) (λ _ _. refl) b q s)

  tape_adds_up : Lawful rule → (b : Book) (t : Tape) → Sound rule b → AdmittedFrom rule capacity b t → (before h : ℕ) →
      h ≡ before + resting_to_buy m b →
      (before + bought m (record_from rule b t)) + resting_to_buy m (from rule b t) ≡ held_from m h (record_from rule b t)
  tape_adds_up lawful b [] s a before h e = omega arith
  tape_adds_up lawful b (q ∷ qs) s a before h e =
      let after = (reply rule b q).book in
      let fs = (reply rule b q).fills in
      let here = buys_add_up b q a.0.0 s a.0.1 in
      let rest = tape_adds_up lawful after qs (reply_sound lawful b q s) a.1 (before + bought_in m fs)
      ((h + to_buy m q) - unbought m q (reply rule b q).answer) (omega arith) in
      omega arith

pub held_is_bought_and_resting : HeldIsBoughtAndResting
held_is_bought_and_resting rule lawful capacity t a m = omega (arith, tape_adds_up m capacity lawful fresh t (fresh_sound rule) a 0 0 refl)
