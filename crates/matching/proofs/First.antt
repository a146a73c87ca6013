-- What a search of the places finds opposite is the first of the other side. Assumes nothing.
use Rattle.std.proofs.Common.{◌≡◌, ℕ, true, false, List, [], ◌∷◌, Some, None, sym, refl, ap, ◌∙◌, subst, inl, inr, arith, Option}
use mathlib.Core.List.{Memᴰ}
use Rattle.std.proofs.lemmas.Bool.{both_ways, and_parts, and_from, cases_Bool}
use Rattle.std.proofs.lemmas.Bool.Decides.{nat_tests}
use Rattle.orders.specs.declared.request.Side.{Side}
use Rattle.orders.specs.declared.request.Side.TheVariants.{Buy, Sell}
use Rattle.orders.specs.declared.order.Order.{Order}
use Rattle.plain.specs.Rule.{Rule, Lawful, InSequence}
use Rattle.plain.specs.Orders.{keep, within, other}
use Rattle.plain.specs.Book.{Book, side}
use Rattle.plain.specs.Sound.{AllLive, Sound}
use Rattle.plain.proofs.Members.{live_one, ahead_of_one}
use Rattle.plain.proofs.Crossed.{ahead_is_within}
use Rattle.matching.specs.Weights.{SameOrders}
use Rattle.matching.specs.Scans.{same_side, opposite}
use Rattle.matching.specs.Deals.{FirstOpposite}
use Rattle.matching.proofs.Alike.{same_side_lem, side_itself}
use Rattle.matching.proofs.OnSide.{side_live, side_sequence, held_on_side, rests_held}

other_twice : (s : Side) → other (other s) ≡ s
other_twice Buy = refl
other_twice Sell = refl

-- what is within the price of one that is within a limit is within the limit
within_onward : (s : Side) (limit : ℕ) (x y : Order) → within s limit x ≡ true → within s x.price y ≡ true → within s limit y ≡ true
within_onward Buy limit x y in-limit in-price = grind (arith, nat_tests)
within_onward Sell limit x y in-limit in-price = grind (arith, nat_tests)

-- the first order of a side is within the limit, and is the one found
pub record Heads (rule : Rule) (s : Side) (limit : ℕ) (c : Book) (x : Order) : Type 0 where
  pub rest : List Order
  pub are : side (other s) c ≡ x ∷ rest
  pub passes : within s limit x ≡ true

module _ {rule : Rule} (law : Lawful rule) (ps : List (Option Order)) (c : Book) (sound : Sound rule c) (orders : SameOrders ps c) (s : Side) (limit : ℕ) where
  is_opposite : (y : Order) → Memᴰ y (side (other s) c) → within s limit y ≡ true → opposite s limit y ≡ true
  is_opposite y m in-limit =
      and_from _ _ (ap (same_side (other s)) (live_one (other s) c.next (side (other s) c) (side_live c sound (other s)) m).of_side ∙ side_itself (other s)) in-limit

  head_of : (x : Order) (xs : List Order) → side (other s) c ≡ xs → Memᴰ x xs → within s limit x ≡ true →
      ((y : Order) → Memᴰ y xs → within s limit y ≡ true → rule y x ≡ false) → Heads rule s limit c x
  head_of x [] e m passes none = elim m [ ]
  head_of x (y ∷ ys) e (Memᴰ.head same) passes none = record { rest = ys; are = e ∙ ap (λ z. z ∷ ys) (sym same); passes = passes }
  head_of x (y ∷ ys) e (Memᴰ.tail m) passes none =
      let live = subst (AllLive (other s) c.next) e (side_live c sound (other s)) in
      let ahead = ahead_of_one rule y ys (subst (InSequence rule) e (side_sequence c sound (other s))).0 m in
      let near = subst (λ t. within t x.price y ≡ true) (other_twice s)
      (ahead_is_within law (other s) y x live.0.of_side (live_one (other s) c.next ys live.1 m).of_side ahead) in
      absurd (both_ways (rule y x) (none y (Memᴰ.head refl) (within_onward s limit x y passes near)) ahead)

  pub found_first : (found : ℕ × Order) → FirstOpposite rule s limit ps (Some found) → Heads rule s limit c found.1
  found_first found first =
      let x = found.1 in
      let parts = and_parts (same_side (other s) x.side) (within s limit x) first.2 in
      let m = subst (λ t. Memᴰ x (side t c)) (sym (same_side_lem (other s) x.side parts.0)) (held_on_side ps c sound orders found.0 x first.0 first.1) in
      head_of x (side (other s) c) refl m parts.1
      (λ y my in-limit. let at = rests_held ps c sound orders (other s) y my in first.3 at.0 at.1 y at.2 (is_opposite y my in-limit))

  keep_nothing : (xs : List Order) → ((y : Order) → Memᴰ y xs → within s limit y ≡ false) → keep (within s limit) xs ≡ []
  keep_nothing [] none = refl
  keep_nothing (x ∷ xs) none = rw (none x (Memᴰ.head refl)) (keep_nothing xs (λ y m. none y (Memᴰ.tail m)))

  pub found_nobody : FirstOpposite rule s limit ps None → keep (within s limit) (side (other s) c) ≡ []
  found_nobody none =
      keep_nothing (side (other s) c) (λ y m.
      elim (cases_Bool (within s limit y)) [
        | inl in-limit ↦ let at = rests_held ps c sound orders (other s) y m in absurd (both_ways (opposite s limit y) (none at.0 at.1 y at.2) (is_opposite y m in-limit))
        | inr out ↦ out
      ])
