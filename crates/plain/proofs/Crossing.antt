-- Dealing one fill at a time: what comes after the first fill, and what fills leave of a list. Assumes nothing.
use Rattle.std.proofs.Common.{◌≡◌, ℕ, ◌+◌, ◌-◌, ◌<◌, ◌≤◌, min, Bool, true, false, cond, eqb, ltb, leb, List, [], ◌∷◌, ◌++◌, sym, refl, ap, ◌∙◌, ⊎_elim, arith}
use Rattle.std.proofs.lemmas.Bool.{cond-true, cond-false, cond_both, eq-eqb, ne_eqb, le-leb, lt-leb, leb-true, lt-ltb, le-ltb, ltb-false, cases_lt}
use Rattle.orders.specs.declared.request.Side.{Side}
use Rattle.orders.specs.declared.request.Side.TheVariants.{Sell}
use Rattle.orders.specs.declared.order.Order.{Order}
use Rattle.orders.specs.declared.order.Fill.{Fill}
use Rattle.plain.specs.Rule.{with_remaining}
use Rattle.plain.specs.Orders.{keep, total}
use Rattle.plain.specs.Dealing.{Pricing, takes, fill, fills_with, left_of, paired, dealt, names, given, settled}
use Rattle.plain.specs.Sound.{AllLive, NotNumbered}
use Rattle.plain.proofs.Cut.{cut, takes_some}
use Rattle.plain.proofs.Deals.{paired_first}

-- a list after q tonnes of its first order
abbrev pub cut_first : ℕ → Order → List Order → List Order
cut_first q x xs = cond (leb x.remaining q) xs (with_remaining x (x.remaining - q) ∷ xs)

pub total_cut : (q : ℕ) (x : Order) (xs : List Order) → q ≤ x.remaining → total (cut_first q x xs) + q ≡ total (x ∷ xs)
total_cut q x xs fits =
    cond_both (leb x.remaining q) xs (with_remaining x (x.remaining - q) ∷ xs) (λ ys. total ys + q ≡ total (x ∷ xs))
    (λ t. omega (arith, leb-true x.remaining q t)) (λ _. omega arith)

pub keep_cut : (f : Order → Bool) (q : ℕ) (x : Order) (xs : List Order) → ((k : ℕ) → f (with_remaining x k) ≡ true) → keep f (cut_first q x xs) ≡ cut_first q x (keep f xs)
keep_cut f q x xs passes =
    elim (leb x.remaining q) as (λ c. keep f (cond c xs (with_remaining x (x.remaining - q) ∷ xs)) ≡ cond c (keep f xs) (with_remaining x (x.remaining - q) ∷ keep f xs)) [
      | true ↦ refl
      | false ↦ rw (passes (x.remaining - q))
    ]

-- what fills leave of a list

given_other : (t : Side) (m n : ℕ) (f : Fill) (fs : List Fill) → names t n f ≡ eqb m n → (m ≡ n → ⊥) → given t n (f ∷ fs) ≡ given t n fs
given_other t m n f fs e ne = let k = cond-false (names t n f) f.quantity 0 (e ∙ ne_eqb m n ne) in omega arith

pub settled_others : (t : Side) (m : ℕ) (f : Fill) (fs : List Fill) → ((n : ℕ) → names t n f ≡ eqb m n) → (ys : List Order) → NotNumbered m ys →
    settled t (f ∷ fs) ys ≡ settled t fs ys
settled_others t m f fs named [] a = refl
settled_others t m f fs named (y ∷ ys) a =
    let r = y.remaining in
    ap (λ v. cond (ltb (given t y.number (f ∷ fs)) r) (with_remaining y (r - given t y.number (f ∷ fs)) ∷ v) v) (settled_others t m f fs named ys a.1) ∙
    ap (λ g. cond (ltb g r) (with_remaining y (r - g) ∷ settled t fs ys) (settled t fs ys)) (given_other t m y.number f fs (named y.number) a.0)

pub settled_nothing : (t u : Side) (next : ℕ) (os : List Order) → AllLive u next os → settled t [] os ≡ os
settled_nothing t u next [] live = refl
settled_nothing t u next (x ∷ xs) live =
    let some : ltb 0 x.remaining ≡ true = lt-ltb 0 x.remaining live.0.some_remains in
    let whole : x.remaining - 0 ≡ x.remaining = omega arith in
    rw (some, whole, settled_nothing t u next xs live.1)

-- one fill of the first order
pub settled_cut : (t u : Side) (next : ℕ) (f : Fill) (x : Order) (xs : List Order) → ((n : ℕ) → names t n f ≡ eqb x.number n) → AllLive u next xs → NotNumbered x.number xs →
    settled t (f ∷ []) (x ∷ xs) ≡ cut_first f.quantity x xs
settled_cut t u next f x xs named live apart =
    let r = x.remaining in
    let q = f.quantity in
    let later = settled_others t x.number f [] named xs apart ∙ settled_nothing t u next xs live in
    let own : given t x.number (f ∷ []) ≡ q = let k = cond-true (names t x.number f) q 0 (named x.number ∙ eq-eqb x.number x.number refl) in omega arith in
    ap (λ v. cond (ltb (given t x.number (f ∷ [])) r) (with_remaining x (r - given t x.number (f ∷ [])) ∷ v) v) later ∙
    ap (λ k. cond (ltb k r) (with_remaining x (r - k) ∷ xs) xs) own ∙
    ⊎_elim
    (λ part. cond-true (ltb q r) (with_remaining x (r - q) ∷ xs) xs (lt-ltb q r part) ∙ sym (cond-false (leb r q) xs (with_remaining x (r - q) ∷ xs) (lt-leb r q part)))
    (λ whole. cond-false (ltb q r) (with_remaining x (r - q) ∷ xs) xs (le-ltb q r whole) ∙ sym (cond-true (leb r q) xs (with_remaining x (r - q) ∷ xs) (le-leb r q whole)))
    (cases_lt q r)

given_append : (t : Side) (n : ℕ) (fs gs : List Fill) → given t n (fs ++ gs) ≡ given t n fs + given t n gs
given_append t n [] gs = omega arith
given_append t n (f ∷ fs) gs = omega (arith, given_append t n fs gs)

less_after : (r a c : ℕ) → ltb (a + c) r ≡ ltb c (r - a)
less_after r a c =
    ⊎_elim (λ h. lt-ltb (a + c) r h ∙ sym (lt-ltb c (r - a) (omega arith))) (λ h. le-ltb (a + c) r h ∙ sym (le-ltb c (r - a) (omega arith))) (cases_lt (a + c) r)

-- some fills after others
pub settled_append : (t : Side) (fs gs : List Fill) (os : List Order) → settled t (fs ++ gs) os ≡ settled t gs (settled t fs os)
settled_append t fs gs [] = refl
settled_append t fs gs (o ∷ os) =
    let r = o.remaining in
    let a = given t o.number fs in
    let c = given t o.number gs in
    let later = settled t gs (settled t fs os) in
    let rest : r - (a + c) ≡ (r - a) - c = omega arith in
    ap (λ v. cond (ltb (given t o.number (fs ++ gs)) r) (with_remaining o (r - given t o.number (fs ++ gs)) ∷ v) v) (settled_append t fs gs os) ∙
    ap (λ k. cond (ltb k r) (with_remaining o (r - k) ∷ later) later) (given_append t o.number fs gs) ∙
    cond_both (ltb a r) (with_remaining o (r - a) ∷ settled t fs os) (settled t fs os) (λ ys. cond (ltb (a + c) r) (with_remaining o (r - (a + c)) ∷ later) later ≡ settled t gs ys)
    (λ _.
    ap (λ test. cond test (with_remaining o (r - (a + c)) ∷ later) later) (less_after r a c) ∙
    ap (λ k. cond (ltb c (r - a)) (with_remaining o k ∷ later) later) rest)
    (λ none. cond-false (ltb (a + c) r) (with_remaining o (r - (a + c)) ∷ later) later (le-ltb (a + c) r (omega (arith, ltb-false a r none))))

-- nothing is dealt of nothing, or where a side is empty

none_taken : (n : ℕ) (os : List Order) → n ≡ 0 → takes n os ≡ []
none_taken n [] e = refl
none_taken n (x ∷ xs) e = cond-true (eqb n 0) [] _ (eq-eqb n 0 e)

pub dealt_nothing : (price : Pricing) (n : ℕ) (bs ss : List Order) → n ≡ 0 → dealt price n bs ss ≡ []
dealt_nothing price n bs ss e = ap (λ ps. paired price ps (takes n ss)) (none_taken n bs e)

pub dealt_unsold : (price : Pricing) (n : ℕ) (bs : List Order) → dealt price n bs [] ≡ []
dealt_unsold price n bs = unsold (takes n bs)
  where
    unsold : (ps : List (Order × ℕ)) → paired price ps [] ≡ []
    unsold [] = refl
    unsold (p ∷ ps) = unsold ps

-- a pricing that is blind to what remains of its parties
pub record BlindPricing (price : Pricing) : Type 0 where
  pub buyer : (b s : Order) (k : ℕ) → price (with_remaining b k) s ≡ price b s
  pub seller : (b s : Order) (k : ℕ) → price b (with_remaining s k) ≡ price b s

module _ (price : Pricing) (blind : BlindPricing price) where
  buyer_blind : (x : Order) (k n : ℕ) (ss : List (Order × ℕ)) → fills_with price (with_remaining x k) n ss ≡ fills_with price x n ss
  buyer_blind x k n [] = refl
  buyer_blind x k n (s ∷ ss) = rw (blind.buyer x s.0 k, buyer_blind x k (n - s.1) ss)

  fills_blind : (b y : Order) (k n r : ℕ) (ss : List (Order × ℕ)) → fills_with price b n ((with_remaining y k, r) ∷ ss) ≡ fills_with price b n ((y, r) ∷ ss)
  fills_blind b y k n r ss = rw (blind.seller b y k)

  seller_blind : (y : Order) (k r : ℕ) (bs ss : List (Order × ℕ)) → paired price bs ((with_remaining y k, r) ∷ ss) ≡ paired price bs ((y, r) ∷ ss)
  seller_blind y k r [] ss = refl
  seller_blind y k r (b ∷ bs) ss =
      rw (fills_blind b.0 y k b.1 r ss)
      (ap (λ fs. fills_with price b.0 b.1 ((y, r) ∷ ss) ++ fs)
      (elim (leb r b.1) as (λ c. paired price bs (cond c (left_of (b.1 - r) ss) ((with_remaining y k, r - b.1) ∷ ss)) ≡ paired price bs (cond c (left_of (b.1 - r) ss) ((y, r - b.1) ∷ ss))) [
        | true ↦ refl
        | false ↦ seller_blind y k (r - b.1) bs ss
      ]))

  -- what is taken of a list after q tonnes of its first order are dealt
  takes_used : (n q : ℕ) (x : Order) (xs : List Order) → q ≡ min n x.remaining → takes (n - q) (cut_first q x xs) ≡ takes (n - x.remaining) xs
  takes_used n q x xs is =
      ⊎_elim
      (λ part. none_taken (n - q) (cut_first q x xs) (omega arith) ∙ sym (none_taken (n - x.remaining) xs (omega arith)))
      (λ whole.
      let same : q ≡ x.remaining = omega arith in
      ap (takes (n - q)) (cond-true (leb x.remaining q) xs _ (le-leb x.remaining q (omega arith))) ∙ ap (λ k. takes (n - k) xs) same)
      (cases_lt n x.remaining)

  takes_part : (n q : ℕ) (x : Order) (xs : List Order) → q < min n x.remaining →
      takes (n - q) (cut_first q x xs) ≡ (with_remaining x (x.remaining - q), min n x.remaining - q) ∷ takes (n - x.remaining) xs
  takes_part n q x xs l =
      let r = x.remaining in
      let a : min (n - q) (r - q) ≡ min n r - q = omega arith in
      let b : (n - q) - (r - q) ≡ n - r = omega arith in
      ap (takes (n - q)) (cond-false (leb r q) xs _ (lt-leb r q (omega arith))) ∙
      cond-false (eqb (n - q) 0) [] _ (ne_eqb (n - q) 0 (λ e. omega arith)) ∙
      ap (λ k. (with_remaining x (r - q), k) ∷ takes ((n - q) - (r - q)) xs) a ∙
      ap (λ k. (with_remaining x (r - q), min n r - q) ∷ takes k xs) b

  buyers_cut : (n k q : ℕ) (x : Order) (xs : List Order) (ss : List (Order × ℕ)) → q ≡ min (min n x.remaining) k →
      paired price (cut x (min n x.remaining) k (takes (n - x.remaining) xs)) ss ≡ paired price (takes (n - q) (cut_first q x xs)) ss
  buyers_cut n k q x xs ss is =
      let m = min n x.remaining in
      ⊎_elim
      (λ part.
      let same : m - k ≡ m - q = omega arith in
      ap (λ ps. paired price ps ss) (cond-false (leb m k) _ _ (lt-leb m k part)) ∙
      ap (λ j. paired price ((x, j) ∷ takes (n - x.remaining) xs) ss) same ∙
      ap (λ fs. fs ++ paired price (takes (n - x.remaining) xs) (left_of (m - q) ss)) (sym (buyer_blind x (x.remaining - q) (m - q) ss)) ∙
      ap (λ ps. paired price ps ss) (sym (takes_part n q x xs (omega arith))))
      (λ used. ap (λ ps. paired price ps ss) (cond-true (leb m k) _ _ (le-leb m k used) ∙ sym (takes_used n q x xs (omega arith))))
      (cases_lt k m)

  sellers_cut : (n k q : ℕ) (y : Order) (ys : List Order) (bs : List (Order × ℕ)) → q ≡ min (min n y.remaining) k →
      paired price bs (cut y (min n y.remaining) k (takes (n - y.remaining) ys)) ≡ paired price bs (takes (n - q) (cut_first q y ys))
  sellers_cut n k q y ys bs is =
      let m = min n y.remaining in
      ⊎_elim
      (λ part.
      let same : m - k ≡ m - q = omega arith in
      ap (paired price bs) (cond-false (leb m k) _ _ (lt-leb m k part)) ∙
      ap (λ j. paired price bs ((y, j) ∷ takes (n - y.remaining) ys)) same ∙
      sym (seller_blind y (y.remaining - q) (m - q) bs (takes (n - y.remaining) ys)) ∙
      ap (paired price bs) (sym (takes_part n q y ys (omega arith))))
      (λ used. ap (paired price bs) (cond-true (leb m k) _ _ (le-leb m k used) ∙ sym (takes_used n q y ys (omega arith))))
      (cases_lt k m)

  -- the first orders of both lists deal the least of what is left and what remains of them, and the rest follows
  pub cross_more : (next n q : ℕ) (x y : Order) (xs ys : List Order) → 0 < n → 1 ≤ x.remaining → AllLive Sell next ys → q ≡ min (min n x.remaining) (min n y.remaining) →
      dealt price n (x ∷ xs) (y ∷ ys) ≡ fill price x y q ∷ dealt price (n - q) (cut_first q x xs) (cut_first q y ys)
  cross_more next n q x y xs ys l some live is =
      let m = min n x.remaining in
      let k = min n y.remaining in
      let t = ne_eqb n 0 (λ e. omega arith) in
      let swapped : q ≡ min k m = omega arith in
      ap (λ ps. paired price ps (takes n (y ∷ ys))) (cond-false (eqb n 0) [] _ t) ∙
      ap (paired price ((x, m) ∷ takes (n - x.remaining) xs)) (cond-false (eqb n 0) [] _ t) ∙
      paired_first price x y m k (takes (n - x.remaining) xs) (takes (n - y.remaining) ys) (omega arith) (takes_some Sell next (n - y.remaining) ys live) ∙
      ap (λ j. fill price x y j ∷ paired price (cut x m k (takes (n - x.remaining) xs)) (cut y k m (takes (n - y.remaining) ys))) (sym is) ∙
      ap (λ fs. fill price x y q ∷ fs) (buyers_cut n k q x xs (cut y k m (takes (n - y.remaining) ys)) is ∙ sellers_cut n m q y ys (takes (n - q) (cut_first q x xs)) swapped)
