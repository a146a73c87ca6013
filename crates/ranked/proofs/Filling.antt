-- Fills written to the places of a list, from its front. Assumes nothing.
use Rattle.std.proofs.Common.{◌≡◌, ℕ, ◌+◌, ◌<◌, ◌≤◌, List, [], ◌∷◌, ◌++◌, length, drop, take, set, sym, ap, ◌∙◌, append_assoc, append-nil, arith}
use Rattle.std.proofs.lemmas.List.{take-append-drop, drop-append-le, length-take-le, drop_more, set_at}
use Rattle.orders.specs.declared.order.Fill.{Fill}

module _ (done : List Fill) (count : ℕ) (lent fills : List Fill) (counted : length done ≡ count) (filled : fills ≡ done ++ drop count lent) where
  -- one fill more
  pub filled_more : (f : Fill) → count < length lent → set fills count f ≡ (done ++ f ∷ []) ++ drop (count + 1) lent
  filled_more f room =
      ap (λ v. set v count f) (filled ∙ ap (λ v. done ++ v) (drop_more lent count f room)) ∙
      set_at done _ (drop (count + 1) lent) f count counted ∙
      sym (append_assoc done (f ∷ []) (drop (count + 1) lent))

  -- none is left
  pub filled_all : (goal rest : List Fill) → done ++ rest ≡ goal → rest ≡ [] → (count ≡ length goal) × (fills ≡ goal ++ drop (length goal) lent)
  filled_all goal rest are none =
      let all : done ≡ goal = sym (append-nil done) ∙ ap (λ v. done ++ v) (sym none) ∙ are in
      let size : count ≡ length goal = sym counted ∙ ap length all in
      (size, filled ∙ ap (λ v. v ++ drop count lent) all ∙ ap (λ k. goal ++ drop k lent) size)

-- fills written in the first k places of a list, beside the rest of it
pub written_part : (goal lent part : List Fill) (k : ℕ) → length goal ≤ k → k ≤ length lent → part ≡ goal ++ drop (length goal) (take k lent) →
    part ++ drop k lent ≡ goal ++ drop (length goal) lent
written_part goal lent part k few fits is =
    let n = length goal in
    let m : length (take k lent) ≡ k = length-take-le k lent fits in
    ap (λ v. v ++ drop k lent) is ∙
    append_assoc goal (drop n (take k lent)) (drop k lent) ∙
    ap (λ v. goal ++ v) (sym (drop-append-le n (take k lent) (drop k lent) (omega arith)) ∙ ap (drop n) (take-append-drop k lent))
