-- No more orders rest than the capacity, and fills have room. Assumes nothing.
use Rattle.std.proofs.Common.{◌≡◌, ℕ, suc, ◌+◌, ◌<◌, ◌≤◌, Bool, true, false, ltb, leb, List, [], ◌∷◌, length, Some, None, Option, refl, subst, arith, length-append}
use Rattle.std.proofs.lemmas.Bool.{leb-false, ltb-false}
use Rattle.orders.specs.declared.request.Side.{Side}
use Rattle.orders.specs.declared.request.Side.TheVariants.{Buy, Sell}
use Rattle.orders.specs.declared.entry.Entry.{Entry}
use Rattle.orders.specs.declared.request.Request.{Request}
use Rattle.orders.specs.declared.request.Request.TheVariants.{Enter, Withdraw, Call, Halt}
use Rattle.orders.specs.declared.order.Phase.{Phase}
use Rattle.orders.specs.declared.order.Phase.TheVariants.{Dealing}
use Rattle.orders.specs.declared.order.Order.{Order}
use Rattle.orders.specs.declared.refusal.Cause.{Cause}
use Rattle.orders.specs.declared.refusal.Cause.TheVariants.{FillListShort, WrongPhase, BookFull, NumbersSpent, BelowMinimum}
use Rattle.plain.specs.Rule.{Rule}
use Rattle.plain.specs.Orders.{find, within, other}
use Rattle.plain.specs.Book.{Book, Tape, fresh, side, resting, reach, put, entry_fills, withdrawn, call_fills, reply, from}
use Rattle.orders.specs.Causes.{first, when}
use Rattle.plain.specs.Gate.{early, unreached, is_dealing, refused_by, AdmittedFrom}
use Rattle.plain.specs.Promises.{AlwaysWithinCapacity}
use Rattle.plain.proofs.Kept.{keep_few}
use Rattle.plain.proofs.Thinned.{Thinned, keep_thins, settled_thins, thinned_few}
use Rattle.plain.proofs.Placed.{placed_length}
use Rattle.plain.proofs.Rested.{left_order, dealt_book, entered_both}
use Rattle.plain.proofs.FewFills.{fills_are_few}

-- a request that is not refused passed each test
first_passed : (t : Bool) (c : Cause) (r : Option Cause) → first (when t c) r ≡ None → (t ≡ false) × (r ≡ None)
first_passed true c r h = let z : ◌≡◌ {A = ℕ} 0 1 = cc in absurd (omega arith)
first_passed false c r h = (refl, h)

when_passed : (t : Bool) (c : Cause) → when t c ≡ None → t ≡ false
when_passed true c h = let z : ◌≡◌ {A = ℕ} 0 1 = cc in absurd (omega arith)
when_passed false c h = refl

module _ (capacity : ℕ) (b : Book) (n : ℕ) where
  listed : (r : Option Cause) → first (when (ltb n capacity) FillListShort) r ≡ None → capacity ≤ n
  listed r h = ltb-false n capacity (first_passed (ltb n capacity) FillListShort r h).0

  entry_has_place : (e : Entry) → refused_by capacity b (Enter e) n ≡ None → length (resting b) < capacity
  entry_has_place e h =
      let after_list = (first_passed (ltb n capacity) FillListShort _ h).1 in
      let after_phase = (first_passed (early b.phase e) WrongPhase _ after_list).1 in
      leb-false capacity (length (resting b)) (first_passed (leb capacity (length (resting b))) BookFull _ after_phase).0

  -- the last two tests of an entry
  entry_last_tests : (e : Entry) → refused_by capacity b (Enter e) n ≡ None → (ltb 999999 b.next ≡ false) × (when (unreached b.phase e b) BelowMinimum ≡ None)
  entry_last_tests e h =
      let after_list = (first_passed (ltb n capacity) FillListShort _ h).1 in
      let after_phase = (first_passed (early b.phase e) WrongPhase _ after_list).1 in
      let after_place = (first_passed (leb capacity (length (resting b))) BookFull _ after_phase).1 in
      first_passed (ltb 999999 b.next) NumbersSpent _ after_place

  -- an entry that was admitted got a number
  pub entry_numbered : (e : Entry) → refused_by capacity b (Enter e) n ≡ None → ltb 999999 b.next ≡ false
  entry_numbered e h = (entry_last_tests e h).0

  -- and while dealing it reaches its minimum
  pub entry_reaches : (e : Entry) → refused_by capacity b (Enter e) n ≡ None → b.phase ≡ Dealing → e.minimum ≤ reach e b
  entry_reaches e h dealing =
      let passed = when_passed (unreached b.phase e b) BelowMinimum (entry_last_tests e h).1 in
      ltb-false (reach e b) e.minimum (subst (λ p. unreached p e b ≡ false) dealing passed)

  -- a call that was admitted came while gathering
  pub call_gathers : refused_by capacity b Call n ≡ None → is_dealing b.phase ≡ false
  call_gathers h = when_passed (is_dealing b.phase) WrongPhase (first_passed (ltb n capacity) FillListShort _ h).1

-- how many orders rest
pub thinned_rest : (phase : Phase) (next : ℕ) {buys sells : List Order} (b : Book) → Thinned b.buys buys → Thinned b.sells sells →
    length (resting (record { phase = phase; next = next; buys = buys; sells = sells })) ≤ length (resting b)
thinned_rest phase next {buys} {sells} b t u = omega (arith, thinned_few t, thinned_few u, length-append b.buys b.sells, length-append buys sells)

put_rests : (rule : Rule) (s : Side) (o : Order) (b : Book) → length (resting (put rule s o b)) ≡ suc (length (resting b))
put_rests rule Buy o b = simp (length-append, placed_length) (omega arith)
put_rests rule Sell o b = simp (length-append, placed_length) (omega arith)

withdrawn_rest : (n : ℕ) (b : Book) (found : Option Order) → length (resting (withdrawn n b found).book) ≤ length (resting b)
withdrawn_rest n b None = omega arith
withdrawn_rest n b (Some o) = thinned_rest b.phase b.next b (keep_thins _ b.buys) (keep_thins _ b.sells)

module _ (rule : Rule) (capacity : ℕ) (b : Book) (high : length (resting b) ≤ capacity) where
  reply_rests : (q : Request) (n : ℕ) → refused_by capacity b q n ≡ None → length (resting (reply rule b q).book) ≤ capacity
  reply_rests (Enter e) n h =
      let fs = entry_fills b.phase e b in
      let place = entry_has_place capacity b n e h in
      let dealt = thinned_rest b.phase (b.next + 1) b (settled_thins Buy fs b.buys) (settled_thins Sell fs b.sells) in
      entered_both rule e b fs (λ c. length (resting c) ≤ capacity)
      (λ _ _. omega (arith, put_rests rule e.side (left_order e b fs) (dealt_book b fs)))
      (λ _. omega arith)
  reply_rests (Withdraw c) n h = omega (arith, withdrawn_rest c.number b (find c.number (resting b)))
  reply_rests Call n h =
      let fs = call_fills b in
      omega (arith, thinned_rest (reply rule b Call).book.phase b.next b (settled_thins Buy fs b.buys) (settled_thins Sell fs b.sells))
  reply_rests Halt n h = omega arith

  -- how many fills
  side_rests : (s : Side) → length (side s b) ≤ length (resting b)
  side_rests Buy = omega (arith, length-append b.buys b.sells)
  side_rests Sell = omega (arith, length-append b.buys b.sells)

  withdrawn_fills : (n : ℕ) (found : Option Order) → length (withdrawn n b found).fills ≡ 0
  withdrawn_fills n None = refl
  withdrawn_fills n (Some o) = refl

  reply_fills : (q : Request) → length (reply rule b q).fills ≤ capacity
  reply_fills (Enter e) =
      omega (arith, (fills_are_few b).of_entry e, keep_few (within e.side e.price) (side (other e.side) b), side_rests (other e.side))
  reply_fills (Withdraw c) = omega (arith, withdrawn_fills c.number (find c.number (resting b)))
  reply_fills Call = omega (arith, (fills_are_few b).of_call_resting)
  reply_fills Halt = omega arith

  reply_has_room : (q : Request) (n : ℕ) → refused_by capacity b q n ≡ None → length (reply rule b q).fills ≤ n
  reply_has_room (Enter e) n h = omega (arith, reply_fills (Enter e), listed capacity b n _ h)
  reply_has_room (Withdraw c) n h = omega (arith, withdrawn_fills c.number (find c.number (resting b)))
  reply_has_room Call n h = omega (arith, reply_fills Call, listed capacity b n _ h)
  reply_has_room Halt n h = omega arith

tape_rests : (rule : Rule) (capacity : ℕ) (b : Book) (t : Tape) → length (resting b) ≤ capacity → AdmittedFrom rule capacity b t → length (resting (from rule b t)) ≤ capacity
tape_rests rule capacity b [] high a = high
tape_rests rule capacity b (q ∷ qs) high a = tape_rests rule capacity (reply rule b q).book qs (reply_rests rule capacity b high q a.0.0 a.0.1) a.1

pub always_within_capacity : AlwaysWithinCapacity
always_within_capacity rule capacity t a =
    let high = tape_rests rule capacity fresh t (omega arith) a in
    record { orders = high; fills = reply_fills rule capacity (from rule fresh t) high; room = reply_has_room rule capacity (from rule fresh t) high }
