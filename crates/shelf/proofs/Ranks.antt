-- The k-th of a side is the order held that has k less one of its side ahead of it. Assumes nothing.
use Rattle.std.proofs.Common.{◌≡◌, ℕ, zero, suc, ◌+◌, List, [], ◌∷◌, length, Some, None, Option, sym, refl, ap, ◌∙◌, subst, arith}
use mathlib.Core.List.{Memᴰ}
use Rattle.std.proofs.lemmas.Bool.{cond-true, cond-false}
use Rattle.orders.specs.declared.request.Side.{Side}
use Rattle.orders.specs.declared.order.Order.{Order}
use Rattle.plain.specs.Rule.{Rule, Lawful, AheadOfAll, InSequence}
use Rattle.plain.specs.Book.{Book, side}
use Rattle.plain.specs.Sound.{Sound}
use Rattle.plain.proofs.Members.{live_one, ahead_of_one}
use Rattle.venue.specs.Questions.{ranked}
use Rattle.matching.specs.Weights.{weight, held_weight, SameOrders}
use Rattle.matching.specs.Scans.{same_side, one_if, only_side, HasRank, RankedIn}
use Rattle.matching.proofs.Alike.{same_side_lem, side_itself}
use Rattle.matching.proofs.OnSide.{HeldAt, side_live, side_sequence, side_held, held_on_side, rests_held}

module _ (rule : Rule) (law : Lawful rule) where
  -- none of those behind an order is ahead of it
  none_ahead : (o : Order) (xs : List Order) → AheadOfAll rule o xs → weight (one_if (λ y. rule y o)) xs ≡ 0
  none_ahead o [] h = refl
  none_ahead o (x ∷ xs) h =
      omega (arith, none_ahead o xs h.1, cond-false {A = ℕ} (rule x o) 1 0 (law.one_way o x h.0))

  first_none : (o x : Order) (xs : List Order) → o ≡ x → AheadOfAll rule x xs → weight (one_if (λ y. rule y o)) (x ∷ xs) ≡ 0
  first_none o x xs e h =
      subst (λ z. weight (one_if (λ y. rule y z)) (x ∷ xs) ≡ 0) (sym e) (omega (arith, none_ahead x xs h, cond-false {A = ℕ} (rule x x) 1 0 (law.never_itself x)))

  -- one of the list has its rank
  rank_of : (o : Order) (xs : List Order) → InSequence rule xs → Memᴰ o xs → ranked (suc (weight (one_if (λ y. rule y o)) xs)) xs ≡ Some o
  rank_of o [] s m = elim m [ ]
  rank_of o (x ∷ xs) s (Memᴰ.head e) =
      ap (λ n. ranked (suc n) (x ∷ xs)) (first_none o x xs e s.0) ∙ ap (λ y. Some y) (sym e)
  rank_of o (x ∷ xs) s (Memᴰ.tail m) =
      let more : weight (one_if (λ y. rule y o)) (x ∷ xs) ≡ suc (weight (one_if (λ y. rule y o)) xs) =
      omega (arith, cond-true {A = ℕ} (rule x o) 1 0 (ahead_of_one rule x xs s.0 m)) in
      ap (λ n. ranked (suc n) (x ∷ xs)) more ∙ rank_of o xs s.1 m

  -- what has a rank is one of the list, with that rank
  rank_is : (k : ℕ) (o : Order) (xs : List Order) → InSequence rule xs → ranked k xs ≡ Some o → Memᴰ o xs × (weight (one_if (λ y. rule y o)) xs + 1 ≡ k)
  rank_is k o [] s h = absurd (let z : ◌≡◌ {A = ℕ} 0 1 = cc in omega arith)
  rank_is zero o (x ∷ xs) s h = absurd (let z : ◌≡◌ {A = ℕ} 0 1 = cc in omega arith)
  rank_is (suc zero) o (x ∷ xs) s h =
      let e : o ≡ x = cc in
      (Memᴰ.head e, omega (arith, first_none o x xs e s.0))
  rank_is (suc (suc k)) o (x ∷ xs) s h =
      let rest = rank_is (suc k) o xs s.1 h in
      (Memᴰ.tail rest.0, omega (arith, rest.1, cond-true {A = ℕ} (rule x o) 1 0 (ahead_of_one rule x xs s.0 rest.0)))

module _ {rule : Rule} (law : Lawful rule) (ps : List (Option Order)) (b : Book) (sound : Sound rule b) (orders : SameOrders ps b) where
  some_ranked : (t : Side) (rank : ℕ) (o : Order) → HeldAt ps o → HasRank rule t rank ps o → Some o ≡ ranked rank (side t b)
  some_ranked t rank o held has =
      let count = weight (one_if (λ y. rule y o)) (side o.side b) in
      let is : suc count ≡ rank = omega (arith, has.1, side_held ps b sound orders o.side (one_if (λ y. rule y o))) in
      subst (λ u. Some o ≡ ranked rank (side u b)) (sym (same_side_lem t o.side has.0))
      (subst (λ k. Some o ≡ ranked k (side o.side b)) is
      (sym (rank_of rule law o (side o.side b) (side_sequence b sound o.side) (held_on_side ps b sound orders held.0 o held.1 held.2))))

  none_ranked : (t : Side) (rank : ℕ) → RankedIn rule t rank ps (length ps) None → (v : Option Order) → ranked rank (side t b) ≡ v → None ≡ v
  none_ranked t rank none None h = refl
  none_ranked t rank none (Some o) h =
      let found = rank_is rule law rank o (side t b) (side_sequence b sound t) h in
      let of_side : o.side ≡ t = (live_one t b.next (side t b) (side_live b sound t) found.0).of_side in
      let at_place = rests_held ps b sound orders t o found.0 in
      let ahead_count = subst (λ u. held_weight (only_side u (one_if (λ y. rule y o))) ps ≡ weight (one_if (λ y. rule y o)) (side t b)) (sym of_side) (side_held ps b sound orders t (one_if (λ y. rule y o))) in
      absurd (none at_place.0 at_place.1 o at_place.2 (ap (same_side t) of_side ∙ side_itself t, omega (arith, ahead_count, found.1)))

  pub ranked_shown : (t : Side) (rank : ℕ) (r : Option Order) → RankedIn rule t rank ps (length ps) r → r ≡ ranked rank (side t b)
  ranked_shown t rank None none = none_ranked t rank none (ranked rank (side t b)) refl
  ranked_shown t rank (Some o) found = some_ranked t rank o found.0 found.1
