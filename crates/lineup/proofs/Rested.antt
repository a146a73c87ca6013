-- A book after an order is put in its place, or taken out. Assumes nothing.
use Rattle.std.proofs.Common.{◌≡◌, ℕ, suc, ◌+◌, ◌-◌, ◌<◌, cond, List, [], ◌∷◌, ◌++◌, length, set, sym, refl, ap, ◌∙◌, subst, arith, length-append, Option, None, Some}
use lib.ListN.{length-map}
use Rattle.std.proofs.lemmas.List.{map-append, set_at}
use Rattle.orders.specs.declared.request.Side.{Side}
use Rattle.orders.specs.declared.request.Side.TheVariants.{Buy, Sell}
use Rattle.orders.specs.declared.order.Order.{Order}
use Rattle.plain.specs.Rule.{Rule}
use Rattle.plain.specs.Orders.{other, placed}
use Rattle.plain.specs.Book.{Book, side, put}
use Rattle.plain.proofs.Placed.{placed_length}
use Rattle.lineup.specs.declared.state.State.{State}
use Rattle.ranking.specs.Sequence.{inserted, inserted_at, Inserts}
use Rattle.lineup.specs.Layout.{seen, held, Removed}
use Rattle.lineup.specs.Lying.{Lies, Recounted, count}
use Rattle.lineup.proofs.Laying.{before, before_length, before_more, lies_after, own_after, gap_left, starts_at, changed}

put_own : (rule : Rule) (t : Side) (o : Order) (b : Book) → side t (put rule t o b) ≡ placed rule o (side t b)
put_own rule Buy o b = refl
put_own rule Sell o b = refl

put_other : (rule : Rule) (t : Side) (o : Order) (b : Book) → side (other t) (put rule t o b) ≡ side (other t) b
put_other rule Buy o b = refl
put_other rule Sell o b = refl

put_phase : (rule : Rule) (t : Side) (o : Order) (b : Book) → (put rule t o b).phase ≡ b.phase
put_phase rule Buy o b = refl
put_phase rule Sell o b = refl

put_next : (rule : Rule) (t : Side) (o : Order) (b : Book) → (put rule t o b).next ≡ b.next
put_next rule Buy o b = refl
put_next rule Sell o b = refl

-- the plain book's list with the order put among the others is that of the ranking
inserted_is : (rule : Rule) (o : Order) (os : List Order) → inserted rule o os ≡ placed rule o os
inserted_is rule o [] = refl
inserted_is rule o (x ∷ xs) = ap (λ ys. cond (rule o x) (o ∷ x ∷ xs) (x ∷ ys)) (inserted_is rule o xs)

pub put_among : (rule : Rule) (key : Order → ℕ) → Inserts key rule → (o : Order) (front : List (Option Order)) (y : Option Order) (os : List Order) →
    inserted_at rule (length front) o (front ++ y ∷ held os) ≡ front ++ held (placed rule o os)
put_among rule key inserts o front y os = inserts.among front y os o ∙ ap (λ xs. front ++ held xs) (inserted_is rule o os)

pub both_counts : (t : Side) (s : State) → s.buys + s.sells ≡ count (other t) s + count t s
both_counts Buy s = omega arith
both_counts Sell s = omega arith

module _ (t : Side) (places places' : List (Option Order)) (s s' : State) (b : Book) (start : ℕ) (starts : start ≡ s.capacity - count t s) (l : Lies places s b) where
  pub rested : (rule : Rule) (key : Order → ℕ) → Inserts key rule → (o : Order) → s.buys + s.sells < s.capacity → Recounted t (count t s + 1) s s' →
      seen t places' ≡ inserted_at rule (start - 1) o (seen t places) →
      Lies places' s' (put rule t o b)
  rested rule key inserts o room r put_in =
      let own = side t b in
      let others = side (other t) b in
      let gap = l.gap - 1 in
      let left = gap_left places s b l t in
      let both = both_counts t s in
      let one : l.gap ≡ gap + 1 = omega arith in
      let long = before_length gap others in
      let d = l.counts (other t) in
      let more = placed_length rule o own in
      let is : seen t places ≡ before gap others ++ None ∷ held own =
      own_after places s b l t ∙ ap (λ m. before m others ++ held own) one ∙ before_more gap others (held own) in
      let free : start - 1 ≡ length (before gap others) = omega arith in
      let now : seen t places' ≡ before gap others ++ held (placed rule o own) =
      put_in ∙ ap (inserted_at rule (start - 1) o) is ∙ ap (λ n. inserted_at rule n o (before gap others ++ None ∷ held own)) free ∙ put_among rule key inserts o (before gap others) None own in
      changed t places places' s s' b (put rule t o b) l gap
      (rw (put_own rule t o b, put_other rule t o b) (lies_after t places' gap (placed rule o own) others now))
      (put_other rule t o b)
      (rw (put_own rule t o b) (omega arith))
      (rw put_own (subst (λ m. Recounted t m s s') (let c = l.counts t in omega arith) r))
      (put_phase rule t o b)
      (put_next rule t o b)

  pub taken_out : (c : Book) (earlier : List Order) (o : Order) (later : List Order) (i : ℕ) → Recounted t (count t s - 1) s s' →
      side t b ≡ earlier ++ o ∷ later → length earlier + start ≡ i →
      Removed start i (seen t places) (seen t places') →
      side t c ≡ earlier ++ later → side (other t) c ≡ side (other t) b → c.phase ≡ b.phase → c.next ≡ b.next → Lies places' s' c
  taken_out c earlier o later i r is at take_out own others phase next =
      let front = before l.gap (side (other t) b) in
      let first = starts_at places s b l t in
      let begins : length front ≡ start = omega arith in
      let reaches : length (held earlier) + start ≡ i = simp length-map at in
      let was = own_after places s b l t ∙ ap (λ os. front ++ held os) is ∙ ap (λ v. front ++ v) (map-append Some earlier (o ∷ later)) in
      let now = take_out front (held earlier) (Some o) (held later) begins reaches was in
      let lies : seen t places' ≡ before (l.gap + 1) (side (other t) b) ++ held (earlier ++ later) =
      now ∙ ap (λ v. front ++ None ∷ v) (sym (map-append Some earlier later)) ∙ sym (before_more l.gap (side (other t) b) (held (earlier ++ later))) in
      let m : length (side t b) ≡ length earlier + suc (length later) = ap length is ∙ length-append earlier (o ∷ later) in
      let k : length (side t c) ≡ length earlier + length later = ap length own ∙ length-append earlier later in
      let e = l.counts t in
      changed t places places' s s' b c l (l.gap + 1)
      (rw (own, others) (lies_after t places' (l.gap + 1) (earlier ++ later) (side (other t) b) lies))
      others
      (omega arith)
      (subst (λ z. Recounted t z s s') (omega arith) r)
      phase
      next

  -- the best order of a side written anew
  pub rewritten : (c : Book) (o o' : Order) (later : List Order) → seen t places' ≡ set (seen t places) start (Some o') →
      side t b ≡ o ∷ later → side t c ≡ o' ∷ later → side (other t) c ≡ side (other t) b → c.phase ≡ b.phase → c.next ≡ b.next → s' ≡ s → Lies places' s' c
  rewritten c o o' later wrote is own others phase next same =
      let front = before l.gap (side (other t) b) in
      let first = starts_at places s b l t in
      let lies : seen t places' ≡ front ++ held (o' ∷ later) =
      wrote ∙ ap (λ v. set v start (Some o')) (own_after places s b l t ∙ ap (λ os. front ++ held os) is) ∙ set_at front (Some o) (held later) (Some o') start (omega arith) in
      let k = ap length is in
      let m = ap length own in
      let e = l.counts t in
      changed t places places' s s' b c l l.gap
      (rw (own, others) (lies_after t places' l.gap (o' ∷ later) (side (other t) b) lies))
      others
      (omega arith)
      (rw same (record { own = omega arith; others = refl; capacity = refl; phase = refl; next = refl }))
      phase
      next
