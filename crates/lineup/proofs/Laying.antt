-- How the orders of a plain book lie, as either side sees them. Assumes nothing.
use Rattle.std.proofs.Common.{◌≡◌, ℕ, zero, suc, ◌+◌, ◌-◌, List, [], ◌∷◌, ◌++◌, reverse, length, drop, replicate, sym, refl, ap, ◌∙◌, append_assoc, add-one, arith, length-append, Option, None}
use mathlib.Core.List.{reverse-cons}
use lib.ListN.{length-map, length-reverse, length-replicate}
use Rattle.std.proofs.lemmas.List.{drop_at, reverse-append, reverse-reverse, replicate_more}
use Rattle.orders.specs.declared.request.Side.{Side}
use Rattle.orders.specs.declared.request.Side.TheVariants.{Buy, Sell}
use Rattle.orders.specs.declared.order.Order.{Order}
use Rattle.plain.specs.Orders.{other}
use Rattle.plain.specs.Book.{Book, side}
use Rattle.lineup.specs.declared.state.State.{State}
use Rattle.lineup.specs.Layout.{seen, held}
use Rattle.lineup.specs.Lying.{LiesAt, Lies, Recounted, count}
use Rattle.lineup.proofs.Mirror.{seen_length}

reverse_replicate : {X : Type 0} (n : ℕ) (x : X) → reverse (replicate n x) ≡ replicate n x
reverse_replicate zero x = refl
reverse_replicate (suc n) x =
    reverse-cons x (replicate n x) ∙ ap (λ xs. xs ++ x ∷ []) (reverse_replicate n x) ∙ replicate_more n x ∙ ap (λ k. replicate k x) (add-one n)

mirrored : {X : Type 0} (xs a b r : List X) → reverse r ≡ r → xs ≡ reverse a ++ (r ++ b) → reverse xs ≡ reverse b ++ (r ++ a)
mirrored xs a b r same e =
    ap reverse e ∙
    reverse-append (reverse a) (r ++ b) ∙
    ap (λ v. v ++ reverse (reverse a)) (reverse-append r b) ∙
    ap (λ v. (reverse b ++ reverse r) ++ v) (reverse-reverse a) ∙
    ap (λ v. (reverse b ++ v) ++ a) same ∙
    append_assoc (reverse b) r a

other_sees : (t : Side) (places : List (Option Order)) (gap : ℕ) (own others : List Order) → LiesAt t places gap own others → LiesAt (other t) places gap others own
other_sees Sell places gap own others e = mirrored places (held others) (held own) (replicate gap None) (reverse_replicate gap None) e
other_sees Buy places gap own others e =
    sym (reverse-reverse places) ∙ mirrored (reverse places) (held others) (held own) (replicate gap None) (reverse_replicate gap None) e

-- what one side sees says what both see
pub both_see : (t : Side) (places : List (Option Order)) (gap : ℕ) (b : Book) → LiesAt t places gap (side t b) (side (other t) b) →
    (u : Side) → LiesAt u places gap (side u b) (side (other u) b)
both_see Buy places gap b e Buy = e
both_see Buy places gap b e Sell = other_sees Buy places gap b.buys b.sells e
both_see Sell places gap b e Sell = e
both_see Sell places gap b e Buy = other_sees Sell places gap b.sells b.buys e

pub on_both : (P : Side → Type 0) (t : Side) → P t → P (other t) → (u : Side) → P u
on_both P Buy own others Buy = own
on_both P Buy own others Sell = others
on_both P Sell own others Buy = others
on_both P Sell own others Sell = own

-- what lies before a side's own orders
abbrev pub before : ℕ → List Order → List (Option Order)
before gap others = reverse (held others) ++ replicate gap None

pub before_length : (gap : ℕ) (others : List Order) → length (before gap others) ≡ length others + gap
before_length gap others = simp (length-append, length-reverse, length-map, length-replicate)

pub before_more : (gap : ℕ) (others : List Order) (rest : List (Option Order)) → before (gap + 1) others ++ rest ≡ before gap others ++ None ∷ rest
before_more gap others rest =
    ap (λ v. (reverse (held others) ++ v) ++ rest) (sym (replicate_more gap None)) ∙
    ap (λ v. v ++ rest) (sym (append_assoc (reverse (held others)) (replicate gap None) (None ∷ []))) ∙
    append_assoc (before gap others) (None ∷ []) rest

-- what a side sees, from what lies before its own orders
pub lies_after : (t : Side) (places : List (Option Order)) (gap : ℕ) (own others : List Order) → seen t places ≡ before gap others ++ held own → LiesAt t places gap own others
lies_after t places gap own others e = e ∙ append_assoc (reverse (held others)) (replicate gap None) (held own)

module _ (places : List (Option Order)) (s : State) (b : Book) (l : Lies places s b) where
  pub own_after : (t : Side) → seen t places ≡ before l.gap (side (other t) b) ++ held (side t b)
  own_after t = l.laid t ∙ sym (append_assoc (reverse (held (side (other t) b))) (replicate l.gap None) (held (side t b)))

  -- the gap is what the counts leave of the capacity
  pub gap_left : (t : Side) → s.capacity ≡ (count (other t) s + l.gap) + count t s
  gap_left t =
      let n : length (seen t places) ≡ (length (side (other t) b) + l.gap) + length (side t b) = ap length (own_after t) ∙ simp (length-append, length-reverse, length-map, length-replicate) in
      let m = seen_length t places in
      let c = l.counts t in
      let d = l.counts (other t) in
      let e = l.size in
      omega arith

  pub starts_at : (t : Side) → length (before l.gap (side (other t) b)) ≡ s.capacity - count t s
  starts_at t =
      let n = before_length l.gap (side (other t) b) in
      let d = l.counts (other t) in
      let g = gap_left t in
      omega arith

  -- what lies from a side's first place on
  pub own_from : (t : Side) (start : ℕ) → start ≡ s.capacity - count t s → drop start (seen t places) ≡ held (side t b)
  own_from t start is =
      let starts = starts_at t in
      ap (drop start) (own_after t) ∙ drop_at (before l.gap (side (other t) b)) (held (side t b)) start (omega arith)

-- a book whose places, count and orders changed on one side
pub changed : (t : Side) (places places' : List (Option Order)) (s s' : State) (b b' : Book) (l : Lies places s b) (gap : ℕ) →
    LiesAt t places' gap (side t b') (side (other t) b') → side (other t) b' ≡ side (other t) b → gap + length (side t b') ≡ l.gap + length (side t b) →
    Recounted t (length (side t b')) s s' → b'.phase ≡ b.phase → b'.next ≡ b.next → Lies places' s' b'
changed t places places' s s' b b' l gap lies same room r phase next = record {
  gap = gap;
  laid = both_see t places' gap b' lies;
  counts = on_both (λ u. count u s' ≡ length (side u b')) t r.own (r.others ∙ l.counts (other t) ∙ sym (ap length same));
  size =
      let n : length (seen t places') ≡ length (side (other t) b') + (gap + length (side t b')) = ap length lies ∙ simp (length-append, length-reverse, length-map, length-replicate) in
      let m = seen_length t places' in
      let c = l.counts t in
      let d = l.counts (other t) in
      let e = ap length same in
      let f = gap_left places s b l t in
      let h = r.capacity in
      omega arith;
  small = let h = r.capacity in let small = l.small in omega arith;
  phase_is = r.phase ∙ l.phase_is ∙ sym phase;
  next_is = r.next ∙ l.next_is ∙ sym next;
}

-- a book with other words about it
pub relabelled : (places : List (Option Order)) (s s' : State) (b b' : Book) → Lies places s b → s'.buys ≡ s.buys → s'.sells ≡ s.sells → s'.capacity ≡ s.capacity →
    b'.buys ≡ b.buys → b'.sells ≡ b.sells → s'.phase ≡ b'.phase → s'.next ≡ b'.next → Lies places s' b'
relabelled places s s' b b' l buys sells capacity bought sold phase next = record {
  gap = l.gap;
  laid = both_see Sell places l.gap b' (rw (bought, sold) (l.laid Sell));
  counts = on_both (λ t. count t s' ≡ length (side t b')) Buy (buys ∙ l.counts Buy ∙ sym (ap length bought)) (sells ∙ l.counts Sell ∙ sym (ap length sold));
  size = capacity ∙ l.size;
  small = let small = l.small in omega arith;
  phase_is = phase;
  next_is = next;
}
