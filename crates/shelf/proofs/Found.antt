-- An order found by its number, and the list without it. Assumes nothing.
use Rattle.std.proofs.Common.{◌≡◌, ℕ, ◌+◌, Bool, true, false, cond, List, [], ◌∷◌, ◌++◌, Some, None, sym, refl, ap, subst, arith}
use mathlib.Core.List.{Memᴰ}
use Rattle.std.proofs.lemmas.Bool.{ne_eqb}
use Rattle.orders.specs.declared.order.Order.{Order}
use Rattle.plain.specs.Rule.{Rule}
use Rattle.plain.specs.Orders.{keep, find, without}
use Rattle.plain.specs.Book.{Book, resting}
use Rattle.plain.specs.Sound.{NotNumbered, Distinct, Apart, Sound}
use Rattle.plain.proofs.Kept.{numbered, numbered_itself}
use Rattle.plain.proofs.Members.{not_of_number}
use Rattle.matching.specs.Weights.{Weight, weight}
use Rattle.matching.specs.Scans.{one_if}

not_numbered_append : (n : ℕ) (xs ys : List Order) → NotNumbered n xs → NotNumbered n ys → NotNumbered n (xs ++ ys)
not_numbered_append n [] ys h k = k
not_numbered_append n (x ∷ xs) ys h k = (h.0, not_numbered_append n xs ys h.1 k)

distinct_append : (xs ys : List Order) → Distinct xs → Distinct ys → Apart xs ys → Distinct (xs ++ ys)
distinct_append [] ys d e a = e
distinct_append (x ∷ xs) ys d e a = (not_numbered_append x.number xs ys d.0 a.0, distinct_append xs ys d.1 e a.1)

pub resting_distinct : {rule : Rule} (b : Book) → Sound rule b → Distinct (resting b)
resting_distinct b s = distinct_append b.buys b.sells s.buys_distinct s.sells_distinct s.sides_apart

pub keep_append : (f : Order → Bool) (xs ys : List Order) → keep f (xs ++ ys) ≡ keep f xs ++ keep f ys
keep_append f [] ys = refl
keep_append f (x ∷ xs) ys =
    elim (f x) as (λ t. cond t (x ∷ keep f (xs ++ ys)) (keep f (xs ++ ys)) ≡ cond t (x ∷ keep f xs) (keep f xs) ++ keep f ys) [
      | true ↦ ap (λ zs. x ∷ zs) (keep_append f xs ys)
      | false ↦ keep_append f xs ys
    ]

none_without : (n : ℕ) (os : List Order) → NotNumbered n os → without n os ≡ os
none_without n [] h = refl
none_without n (o ∷ os) h = rw (ne_eqb o.number n (λ e. h.0 (sym e))) (ap (λ xs. o ∷ xs) (none_without n os h.1))

-- where no order of the number weighs anything, none is found
pub found_none : (n : ℕ) (xs : List Order) → weight (one_if (numbered n)) xs ≡ 0 → find n xs ≡ None
found_none n [] h = refl
found_none n (x ∷ xs) h =
    elim (numbered n x) as (λ t. cond t 1 0 + weight (one_if (numbered n)) xs ≡ 0 → cond t (Some x) (find n xs) ≡ None) [
      | true ↦ λ k. absurd (omega arith)
      | false ↦ λ k. found_none n xs (omega arith)
    ] h

module _ (o : Order) where
  differs : (x : Order) (xs : List Order) → NotNumbered x.number xs → Memᴰ o xs → numbered o.number x ≡ false
  differs x xs apart m = ne_eqb x.number o.number (not_of_number apart m)

  -- one of a list is found by its number
  pub found_one : (xs : List Order) → Distinct xs → Memᴰ o xs → find o.number xs ≡ Some o
  found_one [] d m = elim m [ ]
  found_one (x ∷ xs) d (Memᴰ.head e) = subst (λ y. find o.number (y ∷ xs) ≡ Some o) e (rw (numbered_itself o))
  found_one (x ∷ xs) d (Memᴰ.tail m) = rw (differs x xs d.0 m) (found_one xs d.1 m)

  -- and is all that goes with it
  pub weight_without : (w : Weight) (xs : List Order) → Distinct xs → Memᴰ o xs → weight w xs ≡ w o + weight w (without o.number xs)
  weight_without w [] d m = elim m [ ]
  weight_without w (x ∷ xs) d (Memᴰ.head e) =
      let gone : without o.number xs ≡ xs = none_without o.number xs (subst (λ (y : Order). NotNumbered y.number xs) (sym e) d.0) in
      subst (λ y. weight w (y ∷ xs) ≡ w o + weight w (without o.number (y ∷ xs))) e (rw (numbered_itself o, gone))
  weight_without w (x ∷ xs) d (Memᴰ.tail m) = rw (differs x xs d.0 m) (omega (arith, weight_without w xs d.1 m))
