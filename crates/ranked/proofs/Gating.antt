-- What a book refuses of an entry, told by its state. Assumes nothing.
use Rattle.std.proofs.Common.{◌≡◌, ℕ, ◌+◌, ◌<◌, ◌≤◌, Bool, true, false, ltb, leb, List, length, Some, sym, refl, ap, ◌∙◌, arith, length-append, Option}
use Rattle.std.proofs.lemmas.Bool.{le-ltb, lt-ltb, le-leb, lt-leb}
use Rattle.orders.specs.declared.request.Side.TheVariants.{Buy, Sell}
use Rattle.orders.specs.declared.entry.Entry.{Entry}
use Rattle.orders.specs.declared.request.Request.TheVariants.{Enter}
use Rattle.orders.specs.declared.order.Order.{Order}
use Rattle.orders.specs.declared.refusal.Cause.TheVariants.{BookFull, NumbersSpent, BelowMinimum}
use Rattle.plain.specs.Book.{Book, resting}
use Rattle.orders.specs.Causes.{first, when}
use Rattle.plain.specs.Gate.{early, unreached, refused_by}
use Rattle.lineup.specs.declared.state.State.{State}
use Rattle.lineup.specs.Lying.{Lies}

module _ (places : List (Option Order)) (s : State) (b : Book) (l : Lies places s b) where
  resting_length : length (resting b) ≡ s.buys + s.sells
  resting_length = let c = l.counts Buy in let d = l.counts Sell in length-append b.buys b.sells ∙ omega arith

  module _ (e : Entry) (n : ℕ) (long : s.capacity ≤ n) (late : early s.phase e ≡ false) where
    tests : (full spent short : Bool) → leb s.capacity (length (resting b)) ≡ full → ltb 999999 b.next ≡ spent → unreached b.phase e b ≡ short →
        first (when full BookFull) (first (when spent NumbersSpent) (when short BelowMinimum)) ≡ refused_by s.capacity b (Enter e) n
    tests full spent short p q r =
        let h = le-ltb n s.capacity long in
        let k = ap (λ v. early v e) (sym l.phase_is) ∙ late in
        rw (h, k, p, q, r)

    pub book_full : s.capacity ≤ s.buys + s.sells → Some BookFull ≡ refused_by s.capacity b (Enter e) n
    book_full h = let r = resting_length in tests true _ _ (le-leb s.capacity (length (resting b)) (omega arith)) refl refl

    module _ (room : s.buys + s.sells < s.capacity) where
      not_full : leb s.capacity (length (resting b)) ≡ false
      not_full = let r = resting_length in lt-leb s.capacity (length (resting b)) (omega arith)

      pub numbers_spent : 999999 < s.next → Some NumbersSpent ≡ refused_by s.capacity b (Enter e) n
      numbers_spent h = let k = l.next_is in tests false true _ not_full (lt-ltb 999999 b.next (omega arith)) refl

      pub reach_decides : (short : Bool) → s.next ≤ 999999 → short ≡ unreached b.phase e b → when short BelowMinimum ≡ refused_by s.capacity b (Enter e) n
      reach_decides short h u = let k = l.next_is in tests false false short not_full (le-ltb 999999 b.next (omega arith)) (sym u)
