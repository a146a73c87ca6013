-- Reads and writes of a list as a side sees it. Assumes nothing.
use Rattle.std.proofs.Common.{◌≡◌, ℕ, ◌-◌, ◌<◌, ltb, List, reverse, length, get_or, set, sym, refl, ap, ◌∙◌, ⊎_elim, arith, length-set, get_or-set_other, get_or-set_same}
use lib.ListN.{length-reverse}
use Rattle.std.proofs.lemmas.List.{get_or-reverse, same_lists, get_or_past, set_past}
use Rattle.std.proofs.lemmas.Bool.{cond-true, cond-false, lt-ltb, le-ltb, cases_lt, cases_eq}
use Rattle.orders.specs.declared.request.Side.{Side}
use Rattle.orders.specs.declared.request.Side.TheVariants.{Buy, Sell}
use Rattle.lineup.specs.Layout.{seen, from_end}

pub seen_length : {X : Type 0} (side : Side) (xs : List X) → length (seen side xs) ≡ length xs
seen_length Buy xs = length-reverse xs
seen_length Sell xs = refl

pub reverse_set : {X : Type 0} (xs : List X) (i : ℕ) (x : X) → i < length xs → reverse (set xs (length xs - 1 - i) x) ≡ set (reverse xs) i x
reverse_set xs i x l =
    let n = length xs in
    let j = n - 1 - i in
    let m : length (set xs j x) ≡ n = length-set xs j x in
    let r : length (reverse xs) ≡ n = length-reverse xs in
    let s : length (reverse (set xs j x)) ≡ n = length-reverse (set xs j x) ∙ m in
    same_lists _ _ (s ∙ sym (length-set (reverse xs) i x ∙ r))
    (λ k d h.
    get_or-reverse (set xs j x) k d (omega arith) ∙
    ap (λ z. get_or (set xs j x) (z - 1 - k) d) m ∙
    ⊎_elim
    (λ e. ap (λ z. get_or (set xs j x) (n - 1 - z) d) e ∙ get_or-set_same xs j x d (omega arith) ∙ sym (ap (λ z. get_or (set (reverse xs) i x) z d) e ∙ get_or-set_same (reverse xs) i x d (omega arith)))
    (λ ne. get_or-set_other xs j (n - 1 - k) x d (λ same. ne (omega arith)) ∙ sym (get_or-set_other (reverse xs) i k x d ne ∙ get_or-reverse xs k d (omega arith)))
    (cases_eq k i))

-- a read and a write at a place counted from the end, in a list of n places
module _ {X : Type 0} (xs : List X) (i n k : ℕ) (len : n ≡ length xs) (there : k ≡ from_end n i) where
  pub mirrored_read : (d x : X) → x ≡ get_or xs k d → x ≡ get_or (reverse xs) i d
  mirrored_read d x e =
      e ∙ ap (λ j. get_or xs j d) there ∙
      ⊎_elim
      (λ l. ap (λ j. get_or xs j d) (cond-true (ltb i n) (n - 1 - i) i (lt-ltb i n l) ∙ ap (λ m. m - 1 - i) len) ∙ sym (get_or-reverse xs i d (omega arith)))
      (λ past. ap (λ j. get_or xs j d) (cond-false (ltb i n) (n - 1 - i) i (le-ltb i n past)) ∙ get_or_past xs i d (omega arith) ∙ sym (get_or_past (reverse xs) i d (omega (arith, length-reverse xs))))
      (cases_lt i n)

  pub mirrored_write : (ys : List X) (x : X) → ys ≡ set xs k x → reverse ys ≡ set (reverse xs) i x
  mirrored_write ys x e =
      ap reverse (e ∙ ap (λ j. set xs j x) there) ∙
      ⊎_elim
      (λ l. ap (λ j. reverse (set xs j x)) (cond-true (ltb i n) (n - 1 - i) i (lt-ltb i n l) ∙ ap (λ m. m - 1 - i) len) ∙ reverse_set xs i x (omega arith))
      (λ past. ap (λ j. reverse (set xs j x)) (cond-false (ltb i n) (n - 1 - i) i (le-ltb i n past)) ∙ ap reverse (set_past xs i x (omega arith)) ∙ sym (set_past (reverse xs) i x (omega (arith, length-reverse xs))))
      (cases_lt i n)
