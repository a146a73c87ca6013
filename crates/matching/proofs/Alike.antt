-- An order that weighs something in a list is one of its orders. Assumes nothing.
use Rattle.std.proofs.Common.{◌≡◌, ℕ, ◌+◌, ◌≤◌, Bool, true, false, cond, ◌&&◌, eqb, List, [], ◌∷◌, sym, refl, arith}
use mathlib.Core.List.{Memᴰ}
use Rattle.std.proofs.lemmas.Bool.{true≢false, eqb-true, eq-eqb, and_parts, and_from}
use Rattle.orders.specs.declared.request.Side.{Side}
use Rattle.orders.specs.declared.request.Side.TheVariants.{Buy, Sell}
use Rattle.orders.specs.declared.order.Order.{Order}
use Rattle.matching.specs.Weights.{weight}
use Rattle.matching.specs.Scans.{same_side, one_if}

pub same_side_lem : (s t : Side) → same_side s t ≡ true → s ≡ t
same_side_lem Buy Buy h = refl
same_side_lem Buy Sell h = absurd (true≢false (sym h))
same_side_lem Sell Buy h = absurd (true≢false (sym h))
same_side_lem Sell Sell h = refl

pub side_itself : (s : Side) → same_side s s ≡ true
side_itself Buy = refl
side_itself Sell = refl

-- whether two orders are equal
abbrev pub alike : Order → Order → Bool
alike a b =
    eqb a.number b.number && (eqb a.member b.member && (same_side a.side b.side &&
    (eqb a.price b.price && (eqb a.quantity b.quantity && eqb a.remaining b.remaining))))

pub alike_itself : (a : Order) → alike a a ≡ true
alike_itself a =
    let same = λ (n : ℕ). eq-eqb n n refl in
    and_from _ _ (same a.number) (and_from _ _ (same a.member) (and_from _ _ (side_itself a.side)
    (and_from _ _ (same a.price) (and_from _ _ (same a.quantity) (same a.remaining)))))

pub alike_equal : (a b : Order) → alike a b ≡ true → a ≡ b
alike_equal a b h =
    let h1 = and_parts _ _ h in
    let h2 = and_parts _ _ h1.1 in
    let h3 = and_parts _ _ h2.1 in
    let h4 = and_parts _ _ h3.1 in
    let h5 = and_parts _ _ h4.1 in
    let e0 = eqb-true a.number b.number h1.0 in
    let e1 = eqb-true a.member b.member h2.0 in
    let e2 = same_side_lem a.side b.side h3.0 in
    let e3 = eqb-true a.price b.price h4.0 in
    let e4 = eqb-true a.quantity b.quantity h5.0 in
    let e5 = eqb-true a.remaining b.remaining h5.1 in
    λ i. record { number = e0 i; member = e1 i; side = e2 i; price = e3 i; quantity = e4 i; remaining = e5 i }

-- a list in which orders like this one weigh something has it
pub has_one : (o : Order) (xs : List Order) → 1 ≤ weight (one_if (alike o)) xs → Memᴰ o xs
has_one o [] h = absurd (omega arith)
has_one o (x ∷ xs) h =
    elim (alike o x) as (λ t. alike o x ≡ t → 1 ≤ cond t 1 0 + weight (one_if (alike o)) xs → Memᴰ o (x ∷ xs)) [
      | true ↦ λ e _. Memᴰ.head (alike_equal o x e)
      | false ↦ λ _ k. Memᴰ.tail (has_one o xs (omega arith))
    ] refl h
