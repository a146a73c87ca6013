-- An order looked for among those that lie in places. Assumes nothing.
use Rattle.std.proofs.Common.{◌≡◌, ℕ, ◌+◌, Bool, true, false, cond, eqb, List, [], ◌∷◌, ◌++◌, length, Some, None, Option, sym, refl, ap, ◌∙◌, append_assoc, append-nil, arith}
use lib.ListN.{length-map}
use Rattle.std.proofs.lemmas.List.{length_push, nil_from_length}
use Rattle.std.proofs.lemmas.Bool.{cond-true, cond-false, eq-eqb}
use Rattle.orders.specs.declared.order.Order.{Order}
use Rattle.plain.specs.Orders.{find}
use Rattle.lineup.specs.Layout.{held, Stood}

-- the orders before the place i are not of the number, and the others lie from there on
pub record Finding (n start i : ℕ) (left : List (Option Order)) (os : List Order) : Type 0 where
  pub earlier : List Order
  pub rest : List Order
  pub are : os ≡ earlier ++ rest
  pub lie : left ≡ held rest
  pub reaches : length earlier + start ≡ i
  pub not_earlier : find n earlier ≡ None

none_here : (b : Bool) (x : Order) (r s t : Option Order) → (r ≡ None → s ≡ t) → cond b (Some x) r ≡ None → cond b (Some x) s ≡ t
none_here true x r s t f e = let z : ◌≡◌ {A = ℕ} 0 1 = cc in absurd (omega arith)
none_here false x r s t f e = f e

pub find_append : (n : ℕ) (xs ys : List Order) → find n xs ≡ None → find n (xs ++ ys) ≡ find n ys
find_append n [] ys e = refl
find_append n (x ∷ xs) ys e = none_here (eqb x.number n) x (find n xs) (find n (xs ++ ys)) (find n ys) (find_append n xs ys) e

module _ (n start i : ℕ) (place : Option Order) (left : List (Option Order)) (os : List Order) where
  more : (earlier rest : List Order) → os ≡ earlier ++ rest → place ∷ left ≡ held rest → length earlier + start ≡ i → find n earlier ≡ None →
      ((x : Order) → place ≡ Some x → eqb x.number n ≡ false) → Finding n start (i + 1) left os
  more earlier [] are lie reaches none not = let m = ap length lie in absurd (omega arith)
  more earlier (x ∷ later) are lie reaches none not = record {
    earlier = earlier ++ x ∷ [];
    rest = later;
    are = are ∙ sym (append_assoc earlier (x ∷ []) later);
    lie = cc;
    reaches = let p = length_push earlier x in omega arith;
    not_earlier = find_append n earlier (x ∷ []) none ∙ cond-false (eqb x.number n) (Some x) None (not x (cc));
  }

  pub finding_more : (all : List (Option Order)) (j : ℕ) → Finding n start i all os → all ≡ place ∷ left → j ≡ i + 1 → ((x : Order) → place ≡ Some x → eqb x.number n ≡ false) → Finding n start j left os
  finding_more all j f are next not = rw next (more f.earlier f.rest f.are (sym are ∙ f.lie) f.reaches f.not_earlier not)

  one : (o : Order) (earlier rest : List Order) → os ≡ earlier ++ rest → place ∷ left ≡ held rest → length earlier + start ≡ i → find n earlier ≡ None →
      place ≡ Some o → o.number ≡ n → Stood n start os i o
  one o earlier [] are lie reaches none there same = let m = ap length lie in absurd (omega arith)
  one o earlier (x ∷ later) are lie reaches none there same =
      let x_is : x ≡ o = cc in
      record { earlier = earlier; later = later; are = are ∙ ap (λ z. earlier ++ z ∷ later) x_is; lies = reaches; numbered = same; not_earlier = none }

  pub finding_one : (o : Order) (all : List (Option Order)) → Finding n start i all os → all ≡ place ∷ left → place ≡ Some o → o.number ≡ n → Stood n start os i o
  finding_one o all f are = one o f.earlier f.rest f.are (sym are ∙ f.lie) f.reaches f.not_earlier

pub finding_all : (n start i : ℕ) (os : List Order) → Finding n start i [] os → find n os ≡ None
finding_all n start i os f =
    let m : 0 ≡ length f.rest = ap length f.lie ∙ simp length-map in
    ap (find n) (f.are ∙ ap (λ v. f.earlier ++ v) (nil_from_length f.rest (omega arith)) ∙ append-nil f.earlier) ∙ f.not_earlier

-- the order that stands in a list is the first of its number there, whatever follows
pub stood_first : (n start : ℕ) (os : List Order) (i : ℕ) (o : Order) → Stood n start os i o → (ys : List Order) → find n (os ++ ys) ≡ Some o
stood_first n start os i o s ys =
    ap (λ v. find n (v ++ ys)) s.are ∙
    ap (find n) (append_assoc s.earlier (o ∷ s.later) ys) ∙
    find_append n s.earlier (o ∷ (s.later ++ ys)) s.not_earlier ∙
    cond-true (eqb o.number n) (Some o) (find n (s.later ++ ys)) (eq-eqb o.number n s.numbered)
