-- The order of a rank, by its place. Assumes nothing.
use Rattle.std.proofs.Common.{◌≡◌, ℕ, zero, suc, ◌+◌, ◌-◌, ◌<◌, ◌≤◌, List, [], ◌∷◌, length, get_or, Some, None, sym, refl, ap, ◌∙◌, arith, Option}
use lib.ListN.{length-map}
use Rattle.std.proofs.lemmas.List.{get_or-append_right, get_or_past}
use Rattle.orders.specs.declared.request.Side.{Side}
use Rattle.orders.specs.declared.order.Order.{Order}
use Rattle.plain.specs.Orders.{other}
use Rattle.plain.specs.Book.{Book, side}
use Rattle.venue.specs.Questions.{ranked}
use Rattle.lineup.specs.declared.state.State.{State}
use Rattle.lineup.specs.Layout.{seen, held}
use Rattle.lineup.specs.Lying.{Lies, count}
use Rattle.lineup.proofs.Laying.{before, own_after, starts_at}

pub never : {A P : Type 0} {x : A} → Some x ≡ None → P
never e = let z : ◌≡◌ {A = ℕ} 0 1 = cc in absurd (omega arith)

ranked_next : (k : ℕ) (os : List Order) → ranked (suc k) os ≡ get_or (held os) k None
ranked_next k [] = refl
ranked_next zero (o ∷ os) = refl
ranked_next (suc k) (o ∷ os) = ranked_next k os

ranked_is : (k : ℕ) (os : List Order) → 1 ≤ k → ranked k os ≡ get_or (held os) (k - 1) None
ranked_is k os l = let e : k ≡ suc (k - 1) = omega arith in ap (λ n. ranked n os) e ∙ ranked_next (k - 1) os

pub ranked_none : (k : ℕ) (os : List Order) → k ≡ 0 → ranked k os ≡ None
ranked_none k [] e = refl
ranked_none k (o ∷ os) e = ap (λ n. ranked n (o ∷ os)) e

pub ranked_past : (k : ℕ) (os : List Order) → length os < k → ranked k os ≡ None
ranked_past k os l = ranked_is k os (omega arith) ∙ get_or_past (held os) (k - 1) None (simp length-map (omega arith))

pub ranked_at : (places : List (Option Order)) (s : State) (b : Book) → Lies places s b → (t : Side) (k : ℕ) → 1 ≤ k →
    get_or (seen t places) ((s.capacity - count t s) + (k - 1)) None ≡ ranked k (side t b)
ranked_at places s b l t k low =
    let n = s.capacity - count t s in
    let front = before l.gap (side (other t) b) in
    let e : (n + (k - 1)) - n ≡ k - 1 = omega arith in
    ap (λ v. get_or v (n + (k - 1)) None) (own_after places s b l t) ∙
    get_or-append_right front (held (side t b)) n (n + (k - 1)) None (starts_at places s b l t) (omega arith) ∙
    ap (λ j. get_or (held (side t b)) j None) e ∙
    sym (ranked_is k (side t b) low)

-- the best order
pub best_none : (os : List Order) → None ≡ ranked 1 os → os ≡ []
best_none [] e = refl
best_none (x ∷ xs) e = never (sym e)

pub best_some : (x : Order) (os : List Order) → Some x ≡ ranked 1 os → (later : List Order) × (os ≡ x ∷ later)
best_some x [] e = never e
best_some x (y ∷ ys) e = let same : y ≡ x = cc in (ys, ap (λ z. z ∷ ys) same)
