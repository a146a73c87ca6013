-- A claim held against the sides of a venue's book, as they were copied. Assumes nothing.
use Rattle.std.proofs.Common.{◌≡◌, ℕ, ◌≤◌, Bool, List, length, take, Decides, sym, ap, ◌∙◌, arith, length-append}
use Rattle.std.proofs.lemmas.List.{take_all}
use Rattle.std.proofs.lemmas.Bool.Decides.{Decides-at}
use Rattle.orders.specs.declared.request.Side.{Side}
use Rattle.orders.specs.declared.request.Side.TheVariants.{Buy, Sell}
use Rattle.orders.specs.declared.entry.Entry.{Entry}
use Rattle.orders.specs.declared.order.Order.{Order}
use Rattle.orders.specs.declared.order.Fill.{Fill}
use Rattle.plain.specs.Orders.{other}
use Rattle.plain.specs.Book.{Tape}
use Rattle.plain.specs.Sound.{Sound}
use Rattle.plain.specs.Matched.{EntryMatches}
use Rattle.plain.proofs.StaysSound.{always_sound}
use Rattle.plain.proofs.Capacity.{always_within_capacity}
use Rattle.venue.specs.Meaning.{Setup, book_at, Kept}
use Rattle.replay.specs.Agreeing.{entry_agrees, call_agrees}
use Rattle.claims.specs.Ranks.{side_at}
use Rattle.claims.specs.Judged.{CallHolds}
use Rattle.claims.proofs.Holding.{entry_decides, call_decides}

module _ (v : Setup) (t : Tape) (kept : Kept v t) where
  sound : Sound v.rule (book_at v t)
  sound = always_sound v.rule kept.lawful t

  few : (s : Side) → length (side_at v t s) ≤ 1024
  few s =
      let orders = (always_within_capacity v.rule v.capacity t kept.admitted).orders in
      let high = kept.capacity_high in
      let both = length-append (book_at v t).buys (book_at v t).sells in
      elim s as (λ x. length (side_at v t x) ≤ 1024) [ Buy ↦ omega (arith, orders, both) | Sell ↦ omega (arith, orders, both) ]

  -- a side that was copied whole
  whole : (s : Side) (list : List Order) → list ≡ take 1024 (side_at v t s) → list ≡ side_at v t s
  whole s list is = is ∙ take_all 1024 (side_at v t s) (few s)

  pub entry_stands : (e : Entry) (number : ℕ) (fs : List Fill) (s : Side) (list : List Order) (r : Bool) → s ≡ other e.side → list ≡ take 1024 (side_at v t s) →
      (book_at v t).next ≡ number → r ≡ entry_agrees e number list fs → Decides r (EntryMatches v.rule (book_at v t) e fs)
  entry_stands e number fs s list r opposite is next agreed =
      Decides-at r (entry_agrees e (book_at v t).next (side_at v t (other e.side)) fs)
      (agreed ∙ ap (λ n. entry_agrees e n list fs) (sym next) ∙ ap (λ os. entry_agrees e (book_at v t).next os fs) (whole s list is ∙ ap (side_at v t) opposite))
      (entry_decides kept.lawful (book_at v t) sound e fs (few (other e.side)))

  pub call_stands : (p n : ℕ) (fs : List Fill) (buys sells : List Order) (r : Bool) → buys ≡ take 1024 (side_at v t Buy) → sells ≡ take 1024 (side_at v t Sell) →
      r ≡ call_agrees p n buys sells fs → Decides r (CallHolds v.rule (book_at v t) p n fs)
  call_stands p n fs buys sells r is is' agreed =
      Decides-at r (call_agrees p n (book_at v t).buys (book_at v t).sells fs)
      (agreed ∙ ap (λ os. call_agrees p n os sells fs) (whole Buy buys is) ∙ ap (λ os. call_agrees p n (book_at v t).buys os fs) (whole Sell sells is'))
      (call_decides kept.lawful (book_at v t) sound p n fs (few Buy) (few Sell))
