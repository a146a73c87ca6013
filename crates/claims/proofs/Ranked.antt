-- A side's orders, copied one rank at a time. Assumes nothing.
use Rattle.std.proofs.Common.{◌≡◌, ℕ, zero, suc, ◌+◌, ◌<◌, ◌≤◌, List, [], ◌∷◌, ◌++◌, length, get_or, take, set, Some, None, sym, ap, ◌∙◌, add-one, arith}
use Rattle.std.proofs.lemmas.List.{take_more, take_more_set, take_all}
use Rattle.orders.specs.declared.order.Order.{Order}
use Rattle.venue.specs.Questions.{ranked}

none_ranked : (k : ℕ) (xs : List Order) → None ≡ ranked (suc k) xs → length xs ≤ k
none_ranked k [] e = omega arith
none_ranked zero (x ∷ xs) e = let z : ◌≡◌ {A = ℕ} 0 1 = cc in absurd (omega arith)
none_ranked (suc k) (x ∷ xs) e = let rest = none_ranked k xs e in omega arith

one_ranked : (k : ℕ) (xs : List Order) (o : Order) → Some o ≡ ranked (suc k) xs → (k < length xs) × (get_or xs k o ≡ o)
one_ranked k [] o e = let z : ◌≡◌ {A = ℕ} 0 1 = cc in absurd (omega arith)
one_ranked zero (x ∷ xs) o e = (omega arith, (cc))
one_ranked (suc k) (x ∷ xs) o e = let rest = one_ranked k xs o e in (omega arith, rest.1)

-- the first orders of a list are those of a side
pub record Copied (xs list : List Order) (i : ℕ) : Type 0 where
  pub same : take i list ≡ take i xs
  pub behind : i ≤ length xs

module _ (xs list : List Order) (i : ℕ) (copied : Copied xs list i) where
  pub copied_more : (o : Order) → i < length list → Some o ≡ ranked (i + 1) xs → Copied xs (set list i o) (i + 1)
  copied_more o h e =
      let one = one_ranked i xs o (rw add-one at e) in
      record {
        same = take_more_set list i o h ∙ ap (λ ys. ys ++ o ∷ []) copied.same ∙ ap (λ x. take i xs ++ x ∷ []) (sym one.1) ∙ sym (take_more xs i o one.0);
        behind = omega arith;
      }

  pub copied_none : (n : ℕ) → i ≤ n → None ≡ ranked (i + 1) xs → take i list ≡ take n xs
  copied_none n h e =
      let few = none_ranked i xs (rw add-one at e) in
      copied.same ∙ take_all i xs few ∙ sym (take_all n xs (omega arith))
