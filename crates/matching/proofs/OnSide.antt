-- The orders of one side, by what is held. Assumes nothing.
use Rattle.std.proofs.Common.{◌≡◌, ℕ, suc, ◌<◌, ◌≤◌, true, false, cond, List, [], ◌∷◌, length, sym, refl, ap, ◌∙◌, subst, arith, Option, None, Some}
use mathlib.Core.List.{Memᴰ}
use Rattle.std.proofs.lemmas.Bool.{cond-true, cond-false}
use Rattle.orders.specs.declared.request.Side.{Side}
use Rattle.orders.specs.declared.request.Side.TheVariants.{Buy, Sell}
use Rattle.orders.specs.declared.order.Order.{Order}
use Rattle.plain.specs.Rule.{Rule, InSequence}
use Rattle.plain.specs.Orders.{other}
use Rattle.plain.specs.Book.{Book, side, resting}
use Rattle.plain.specs.Sound.{AllLive, Sound}
use Rattle.plain.proofs.Members.{live_one}
use Rattle.ranking.specs.Search.{Holds}
use Rattle.matching.specs.Weights.{Weight, weight, held_weight, SameOrders}
use Rattle.matching.specs.Scans.{same_side, one_if, only_side}
use Rattle.matching.proofs.Alike.{side_itself, alike, alike_itself, alike_equal, has_one}
use Rattle.matching.proofs.Shown.{held_part}
use Rattle.matching.proofs.Weighed.{weight_append}

module _ (t : Side) (w : Weight) (next : ℕ) where
  own_only : (xs : List Order) → AllLive t next xs → weight (only_side t w) xs ≡ weight w xs
  own_only [] live = refl
  own_only (x ∷ xs) live =
      omega (arith, own_only xs live.1, cond-true (same_side t x.side) (w x) 0 (ap (same_side t) live.0.of_side ∙ side_itself t))

  not_other : (u : Side) → u ≡ other t → same_side t u ≡ false
  not_other u e = ap (same_side t) e ∙ elim t as (λ v. same_side v (other v) ≡ false) [ Buy ↦ refl | Sell ↦ refl ]

  other_only : (xs : List Order) → AllLive (other t) next xs → weight (only_side t w) xs ≡ 0
  other_only [] live = refl
  other_only (x ∷ xs) live = omega (arith, other_only xs live.1, cond-false (same_side t x.side) (w x) 0 (not_other x.side live.0.of_side))

module _ {rule : Rule} (b : Book) (sound : Sound rule b) where
  pub side_weight : (t : Side) (w : Weight) → weight (only_side t w) (resting b) ≡ weight w (side t b)
  side_weight Buy w = omega (arith, weight_append (only_side Buy w) b.buys b.sells, own_only Buy w b.next b.buys sound.buys_live, other_only Buy w b.next b.sells sound.sells_live)
  side_weight Sell w = omega (arith, weight_append (only_side Sell w) b.buys b.sells, own_only Sell w b.next b.sells sound.sells_live, other_only Sell w b.next b.buys sound.buys_live)

  pub side_live : (t : Side) → AllLive t b.next (side t b)
  side_live Buy = sound.buys_live
  side_live Sell = sound.sells_live

  pub side_sequence : (t : Side) → InSequence rule (side t b)
  side_sequence Buy = sound.buys_in_sequence
  side_sequence Sell = sound.sells_in_sequence

-- a list has what weighs something in it, and so have places
weighs_one : (o : Order) (xs : List Order) → Memᴰ o xs → 1 ≤ weight (one_if (alike o)) xs
weighs_one o [] m = elim m [ ]
weighs_one o (x ∷ xs) (Memᴰ.head e) = omega (arith, cond-true {A = ℕ} (alike o x) 1 0 (ap (alike o) (sym e) ∙ alike_itself o))
weighs_one o (x ∷ xs) (Memᴰ.tail m) = omega (arith, weighs_one o xs m)

abbrev pub HeldAt : List (Option Order) → Order → Type 0
HeldAt ps o = (i : ℕ) × (i < length ps) × Holds ps i o

nothing_there : (o y : Order) → alike o y ≡ false → only_side o.side (one_if (alike o)) y ≡ 0
nothing_there o y e = rw e (elim (same_side o.side y.side) as (λ v. cond {A = ℕ} v 0 0 ≡ 0) [ true ↦ refl | false ↦ refl ])

pub held_later : (o : Order) (p : Option Order) (ps : List (Option Order)) → HeldAt ps o → HeldAt (p ∷ ps) o
held_later o p ps found = (suc found.0, omega (arith, found.1), found.2)

held_one : (o : Order) (ps : List (Option Order)) → 1 ≤ held_weight (only_side o.side (one_if (alike o))) ps → HeldAt ps o
held_one o [] h = absurd (omega arith)
held_one o (None ∷ ps) h = held_later o None ps (held_one o ps (omega arith))
held_one o (Some y ∷ ps) h =
    elim (alike o y) as (λ v. alike o y ≡ v → HeldAt (Some y ∷ ps) o) [
      | true ↦ λ e. (0, omega arith, ap (λ z. Some z) (sym (alike_equal o y e)))
      | false ↦ λ e. held_later o (Some y) ps (held_one o ps (omega (arith, nothing_there o y e)))
    ] refl

module _ {rule : Rule} (ps : List (Option Order)) (b : Book) (sound : Sound rule b) (orders : SameOrders ps b) where
  pub side_held : (t : Side) (w : Weight) → held_weight (only_side t w) ps ≡ weight w (side t b)
  side_held t w = orders (only_side t w) ∙ side_weight b sound t w

  pub held_on_side : (i : ℕ) (o : Order) → i < length ps → Holds ps i o → Memᴰ o (side o.side b)
  held_on_side i o h holds =
      has_one o (side o.side b)
      (omega (
        arith,
        held_part (only_side o.side (one_if (alike o))) ps i o h holds,
        side_held o.side (one_if (alike o)),
        cond-true (same_side o.side o.side) (one_if (alike o) o) 0 (side_itself o.side),
        cond-true {A = ℕ} (alike o o) 1 0 (alike_itself o),
      ))

  -- what rests on a side is held
  pub rests_held : (t : Side) (y : Order) → Memᴰ y (side t b) → HeldAt ps y
  rests_held t y m =
      let of_side : y.side ≡ t = (live_one t b.next (side t b) (side_live b sound t) m).of_side in
      let one = subst (λ u. held_weight (only_side u (one_if (alike y))) ps ≡ weight (one_if (alike y)) (side t b)) (sym of_side) (side_held t (one_if (alike y))) in
      held_one y ps (omega (arith, one, weighs_one y (side t b) m))
