-- The fills of an entry are those dealt one by one, and leave what they leave. Assumes nothing.
use Rattle.std.proofs.Common.{◌≡◌, ℕ, ◌-◌, ◌<◌, ◌≤◌, min, true, false, cond, eqb, ltb, leb, List, [], ◌∷◌, ◌++◌, sym, refl, ap, ◌∙◌, subst, ⊎_elim, append-nil, arith}
use Rattle.std.proofs.lemmas.Bool.{cond-true, cond-false, eq-eqb, ne_eqb, le-leb, lt-leb, leb-true, leb-false, lt-ltb, le-ltb, cases_eq, cases_lt, cases_Bool}
use Rattle.orders.specs.declared.request.Side.{Side}
use Rattle.orders.specs.declared.request.Side.TheVariants.{Buy, Sell}
use Rattle.orders.specs.declared.order.Order.{Order}
use Rattle.orders.specs.declared.order.Fill.{Fill}
use Rattle.plain.specs.Rule.{Rule, Lawful, Better, InSequence, AheadOfAll, with_remaining}
use Rattle.plain.specs.Orders.{keep, total, within, other}
use Rattle.plain.specs.Dealing.{takes, fill, fills_with, left_of, paired, dealt, names, given, settled}
use Rattle.plain.specs.Book.{resting_price, entry_buyers, entry_sellers}
use Rattle.plain.specs.Sound.{LiveOrder, AllLive, NotNumbered, Distinct}
use Rattle.orders.specs.Entries.{taken}
use Rattle.ranked.specs.ByTurns.{by_turns, left_by, cut_by}

-- one more order
pub turns_none : (s : Side) (o : Order) (n : ℕ) (os : List Order) → n ≡ 0 → by_turns s o n os ≡ []
turns_none s o n [] e = refl
turns_none s o n (x ∷ xs) e = cond-true (eqb n 0) [] _ (eq-eqb n 0 e)

pub turns_more : (s : Side) (o : Order) (n : ℕ) (x : Order) (xs : List Order) → 0 < n → by_turns s o n (x ∷ xs) ≡ taken s o x (min n x.remaining) ∷ by_turns s o (n - x.remaining) xs
turns_more s o n x xs l = cond-false (eqb n 0) [] _ (ne_eqb n 0 (λ e. omega arith))

pub left_none : (n : ℕ) (os : List Order) → n ≡ 0 → left_by n os ≡ os
left_none n [] e = refl
left_none n (x ∷ xs) e = cond-true (eqb n 0) (x ∷ xs) _ (eq-eqb n 0 e)

pub left_gone : (n : ℕ) (x : Order) (xs : List Order) → 0 < n → x.remaining ≤ n → left_by n (x ∷ xs) ≡ left_by (n - x.remaining) xs
left_gone n x xs l h = cond-false (eqb n 0) (x ∷ xs) _ (ne_eqb n 0 (λ e. omega arith)) ∙ cond-true (leb x.remaining n) _ _ (le-leb x.remaining n h)

pub left_part : (n : ℕ) (x : Order) (xs : List Order) → 0 < n → n < x.remaining → left_by n (x ∷ xs) ≡ with_remaining x (x.remaining - n) ∷ xs
left_part n x xs l h = cond-false (eqb n 0) (x ∷ xs) _ (ne_eqb n 0 (λ e. omega arith)) ∙ cond-false (leb x.remaining n) _ _ (lt-leb x.remaining n h)

-- one turn, and what it leaves
pub turn_fills : (s : Side) (o : Order) (n : ℕ) (x : Order) (xs : List Order) → 0 < n →
    by_turns s o n (x ∷ xs) ≡ taken s o x (min n x.remaining) ∷ by_turns s o (n - min n x.remaining) (cut_by n x xs)
turn_fills s o n x xs l =
    let r = x.remaining in
    turns_more s o n x xs l ∙
    ap (λ fs. taken s o x (min n r) ∷ fs)
    (⊎_elim
    (λ part. turns_none s o (n - r) xs (omega arith) ∙ sym (turns_none s o (n - min n r) (cut_by n x xs) (omega arith)))
    (λ whole.
    let m : n - r ≡ n - min n r = omega arith in
    ap (λ k. by_turns s o k xs) m ∙ ap (by_turns s o (n - min n r)) (sym (cond-true (leb r n) xs _ (le-leb r n whole))))
    (cases_lt n r))

pub turn_leaves : (n : ℕ) (x : Order) (xs : List Order) → 0 < n → left_by n (x ∷ xs) ≡ left_by (n - min n x.remaining) (cut_by n x xs)
turn_leaves n x xs l =
    let r = x.remaining in
    ⊎_elim
    (λ part. left_part n x xs l part ∙ sym (left_none (n - min n r) (cut_by n x xs) (omega arith) ∙ cond-false (leb r n) xs _ (lt-leb r n part)))
    (λ whole.
    let m : n - r ≡ n - min n r = omega arith in
    left_gone n x xs l whole ∙ ap (λ k. left_by k xs) m ∙ ap (left_by (n - min n r)) (sym (cond-true (leb r n) xs _ (le-leb r n whole))))
    (cases_lt n r)

-- a buy's fills
buy_turns : (o : Order) (n : ℕ) (os : List Order) → fills_with (resting_price Buy) o n (takes n os) ≡ by_turns Buy o n os
buy_turns o n [] = refl
buy_turns o n (x ∷ xs) =
    ⊎_elim
    (λ e. ap (fills_with (resting_price Buy) o n) (cond-true (eqb n 0) [] _ (eq-eqb n 0 e)) ∙ sym (turns_none Buy o n (x ∷ xs) e))
    (λ ne.
    let r = x.remaining in
    let a : min n (min n r) ≡ min n r = omega arith in
    let b : n - min n r ≡ n - r = omega arith in
    let t = ne_eqb n 0 ne in
    ap (fills_with (resting_price Buy) o n) (cond-false (eqb n 0) [] _ t) ∙
    cond-false (eqb n 0) [] _ t ∙
    ap (λ k. fill (resting_price Buy) o x k ∷ fills_with (resting_price Buy) o (n - min n r) (takes (n - r) xs)) a ∙
    ap (λ k. fill (resting_price Buy) o x (min n r) ∷ fills_with (resting_price Buy) o k (takes (n - r) xs)) b ∙
    ap (λ fs. fill (resting_price Buy) o x (min n r) ∷ fs) (buy_turns o (n - r) xs) ∙
    sym (turns_more Buy o n x xs (omega arith)))
    (cases_eq n 0)

-- a sell's fills
pub none_taken : (n : ℕ) (os : List Order) → n ≡ 0 → takes n os ≡ []
none_taken n [] e = refl
none_taken n (x ∷ xs) e = cond-true (eqb n 0) [] _ (eq-eqb n 0 e)

one_left : (o : Order) (n m : ℕ) → m < n → left_of m ((o, n) ∷ []) ≡ (o, n - m) ∷ []
one_left o n m l = cond-false (leb n m) [] _ (lt-leb n m l)

sell_turns : (o : Order) (next n : ℕ) (os : List Order) → AllLive Buy next os → 0 < n → paired (resting_price Sell) (takes n os) ((o, n) ∷ []) ≡ by_turns Sell o n os
sell_turns o next n [] live l = refl
sell_turns o next n (x ∷ xs) live l =
    let r = x.remaining in
    let some = live.0.some_remains in
    let price = resting_price Sell in
    let a : min (min n r) n ≡ min n r = omega arith in
    let t = ne_eqb n 0 (λ e. omega arith) in
    let u = ne_eqb (min n r) 0 (λ e. omega arith) in
    ap (λ ps. paired price ps ((o, n) ∷ [])) (cond-false (eqb n 0) [] _ t) ∙
    ap (λ fs. fs ++ paired price (takes (n - r) xs) (left_of (min n r) ((o, n) ∷ []))) (cond-false (eqb (min n r) 0) [] _ u) ∙
    ap (λ k. fill price x o k ∷ paired price (takes (n - r) xs) (left_of (min n r) ((o, n) ∷ []))) a ∙
    ap (λ fs. fill price x o (min n r) ∷ fs)
    (⊎_elim
    (λ less.
    let m : min n r ≡ r = omega arith in
    ap (λ k. paired price (takes (n - r) xs) (left_of k ((o, n) ∷ []))) m ∙ ap (paired price (takes (n - r) xs)) (one_left o n r less) ∙ sell_turns o next (n - r) xs live.1 (omega arith))
    (λ most.
    let z : n - r ≡ 0 = omega arith in
    ap (λ ps. paired price ps (left_of (min n r) ((o, n) ∷ []))) (none_taken (n - r) xs z) ∙ sym (turns_none Sell o (n - r) xs z))
    (cases_lt r n)) ∙
    sym (turns_more Sell o n x xs l)

own_takes : (o : Order) (n : ℕ) → 0 < n → n ≤ o.remaining → takes n (o ∷ []) ≡ (o, n) ∷ []
own_takes o n l h =
    let m : min n o.remaining ≡ n = omega arith in
    cond-false (eqb n 0) [] _ (ne_eqb n 0 (λ e. omega arith)) ∙ ap (λ k. (o, k) ∷ []) m

-- what the plain book deals
pub dealt_by_turns : (s : Side) (o : Order) (next n : ℕ) (os : List Order) → AllLive (other s) next os → n ≤ o.remaining →
    dealt (resting_price s) n (entry_buyers s o os) (entry_sellers s o os) ≡ by_turns s o n os
dealt_by_turns Buy o next n os live h =
    ⊎_elim
    (λ e. ap (λ ps. paired (resting_price Buy) ps (takes n os)) (cond-true (eqb n 0) [] _ (eq-eqb n 0 e)) ∙ sym (turns_none Buy o n os e))
    (λ ne. ap (λ ps. paired (resting_price Buy) ps (takes n os)) (own_takes o n (omega arith) h) ∙ append-nil _ ∙ buy_turns o n os)
    (cases_eq n 0)
dealt_by_turns Sell o next n os live h =
    ⊎_elim
    (λ e. ap (λ ps. paired (resting_price Sell) ps (takes n (o ∷ []))) (none_taken n os e) ∙ sym (turns_none Sell o n os e))
    (λ ne. ap (paired (resting_price Sell) (takes n os)) (own_takes o n (omega arith) h) ∙ sell_turns o next n os live (omega arith))
    (cases_eq n 0)

-- what the fills give
names_theirs : (s : Side) (o x : Order) (q m : ℕ) → names (other s) m (taken s o x q) ≡ eqb x.number m
names_theirs Buy o x q m = refl
names_theirs Sell o x q m = refl

names_own : (s : Side) (o x : Order) (q m : ℕ) → names s m (taken s o x q) ≡ eqb o.number m
names_own Buy o x q m = refl
names_own Sell o x q m = refl

tonnes_at : (s : Side) (o x : Order) (q : ℕ) → (taken s o x q).quantity ≡ q
tonnes_at Buy o x q = refl
tonnes_at Sell o x q = refl

pub given_other : (t : Side) (m n : ℕ) (f : Fill) (fs : List Fill) → names t n f ≡ eqb m n → (m ≡ n → ⊥) → given t n (f ∷ fs) ≡ given t n fs
given_other t m n f fs e ne = let k = cond-false (names t n f) f.quantity 0 (e ∙ ne_eqb m n ne) in omega arith

pub settled_others : (t : Side) (m : ℕ) (f : Fill) (fs : List Fill) → ((n : ℕ) → names t n f ≡ eqb m n) → (ys : List Order) → NotNumbered m ys → settled t (f ∷ fs) ys ≡ settled t fs ys
settled_others t m f fs named [] a = refl
settled_others t m f fs named (y ∷ ys) a =
    let r = y.remaining in
    ap (λ v. cond (ltb (given t y.number (f ∷ fs)) r) (with_remaining y (r - given t y.number (f ∷ fs)) ∷ v) v) (settled_others t m f fs named ys a.1) ∙
    ap (λ g. cond (ltb g r) (with_remaining y (r - g) ∷ settled t fs ys) (settled t fs ys)) (given_other t m y.number f fs (named y.number) a.0)

pub settled_nothing : (t u : Side) (next : ℕ) (os : List Order) → AllLive u next os → settled t [] os ≡ os
settled_nothing t u next [] live = refl
settled_nothing t u next (x ∷ xs) live =
    let some = live.0.some_remains in
    let same : x.remaining - 0 ≡ x.remaining = omega arith in
    cond-true (ltb 0 x.remaining) _ _ (lt-ltb 0 x.remaining (omega arith)) ∙
    ap (λ n. with_remaining x n ∷ settled t [] xs) same ∙
    ap (λ v. x ∷ v) (settled_nothing t u next xs live.1)

module _ (s : Side) (o : Order) where
  given_none : (n : ℕ) (os : List Order) (m : ℕ) → NotNumbered m os → given (other s) m (by_turns s o n os) ≡ 0
  given_none n [] m a = refl
  given_none n (x ∷ xs) m a =
      ⊎_elim
      (λ e. ap (given (other s) m) (turns_none s o n (x ∷ xs) e))
      (λ ne.
      ap (given (other s) m) (turns_more s o n x xs (omega arith)) ∙
      given_other (other s) x.number m _ _ (names_theirs s o x _ m) (λ e. a.0 (sym e)) ∙
      given_none (n - x.remaining) xs m a.1)
      (cases_eq n 0)

  -- the resting orders are left what the turns leave
  pub settled_turns : (u : Side) (next n : ℕ) (os : List Order) → AllLive u next os → Distinct os → settled (other s) (by_turns s o n os) os ≡ left_by n os
  settled_turns u next n [] live d = refl
  settled_turns u next n (x ∷ xs) live d =
      ⊎_elim
      (λ e. ap (λ fs. settled (other s) fs (x ∷ xs)) (turns_none s o n (x ∷ xs) e) ∙ settled_nothing (other s) u next (x ∷ xs) live ∙ sym (left_none n (x ∷ xs) e))
      (λ ne.
      let r = x.remaining in
      let l : 0 < n = omega arith in
      let f = taken s o x (min n r) in
      let fs = by_turns s o (n - r) xs in
      let later : settled (other s) (f ∷ fs) xs ≡ left_by (n - r) xs =
      settled_others (other s) x.number f fs (names_theirs s o x (min n r)) xs d.0 ∙ settled_turns u next (n - r) xs live.1 d.1 in
      let own : given (other s) x.number (f ∷ fs) ≡ min n r =
      let a = cond-true (names (other s) x.number f) f.quantity 0 (names_theirs s o x (min n r) x.number ∙ eq-eqb x.number x.number refl) in
      let b = tonnes_at s o x (min n r) in
      let c = given_none (n - r) xs x.number d.0 in
      omega arith in
      ap (λ gs. settled (other s) gs (x ∷ xs)) (turns_more s o n x xs l) ∙
      ap (λ v. cond (ltb (given (other s) x.number (f ∷ fs)) r) (with_remaining x (r - given (other s) x.number (f ∷ fs)) ∷ v) v) later ∙
      ap (λ g. cond (ltb g r) (with_remaining x (r - g) ∷ left_by (n - r) xs) (left_by (n - r) xs)) own ∙
      ⊎_elim
      (λ part.
      let m : min n r ≡ n = omega arith in
      ap (λ g. cond (ltb g r) (with_remaining x (r - g) ∷ left_by (n - r) xs) (left_by (n - r) xs)) m ∙
      cond-true (ltb n r) _ _ (lt-ltb n r part) ∙
      ap (λ v. with_remaining x (r - n) ∷ v) (left_none (n - r) xs (omega arith)) ∙
      sym (left_part n x xs l part))
      (λ whole.
      cond-false (ltb (min n r) r) _ _ (le-ltb (min n r) r (omega arith)) ∙ sym (left_gone n x xs l whole))
      (cases_lt n r))
      (cases_eq n 0)

  -- the entry's own side is left as it is
  pub settled_own : (u : Side) (next n : ℕ) (os own : List Order) → AllLive u next own → NotNumbered o.number own → settled s (by_turns s o n os) own ≡ own
  settled_own u next n [] own live a = settled_nothing s u next own live
  settled_own u next n (x ∷ xs) own live a =
      ⊎_elim
      (λ e. ap (λ fs. settled s fs own) (turns_none s o n (x ∷ xs) e) ∙ settled_nothing s u next own live)
      (λ ne.
      ap (λ fs. settled s fs own) (turns_more s o n x xs (omega arith)) ∙
      settled_others s o.number _ _ (names_own s o x _) own a ∙
      settled_own u next (n - x.remaining) xs own live a)
      (cases_eq n 0)

-- orders in sequence lie within a limit first
module _ (rule : Rule) (lawful : Lawful rule) (limit next : ℕ) where
  better_price : (s : Side) (x y : Order) → LiveOrder (other s) next x → LiveOrder (other s) next y → within s limit x ≡ false → within s limit y ≡ true → rule y x ≡ true
  better_price Buy x y p q out in' =
      lawful.price_first y x (q.of_side ∙ sym p.of_side) (subst (λ t. Better t y.price x.price) (sym q.of_side) (omega (arith, leb-false x.price limit out, leb-true y.price limit in')))
  better_price Sell x y p q out in' =
      lawful.price_first y x (q.of_side ∙ sym p.of_side) (subst (λ t. Better t y.price x.price) (sym q.of_side) (omega (arith, leb-false limit x.price out, leb-true limit y.price in')))

  none_within : (s : Side) (x : Order) (xs : List Order) → LiveOrder (other s) next x → AllLive (other s) next xs → AheadOfAll rule x xs → within s limit x ≡ false → keep (within s limit) xs ≡ []
  none_within s x [] p live ahead out = refl
  none_within s x (y ∷ ys) p live ahead out =
      let later = none_within s x ys p live.1 ahead.1 out in
      ⊎_elim
      (λ in'. let a = better_price s x y p live.0 out in' in let b = lawful.one_way x y ahead.0 in let z : true ≡ false = sym a ∙ b in let w : ◌≡◌ {A = ℕ} 0 1 = cc in absurd (omega arith))
      (λ out'. cond-false (within s limit y) _ _ out' ∙ later)
      (cases_Bool (within s limit y))

  pub turns_within : (s : Side) (o : Order) (n : ℕ) (os : List Order) → AllLive (other s) next os → InSequence rule os → n ≤ total (keep (within s limit) os) →
      by_turns s o n (keep (within s limit) os) ≡ by_turns s o n os
  turns_within s o n [] live seq h = refl
  turns_within s o n (x ∷ xs) live seq h =
      ⊎_elim
      (λ in'.
      let k = cond-true (within s limit x) (x ∷ keep (within s limit) xs) (keep (within s limit) xs) in' in
      let t : n - x.remaining ≤ total (keep (within s limit) xs) = let g = ap total k in omega arith in
      ap (by_turns s o n) k ∙
      ap (λ fs. cond (eqb n 0) [] (taken s o x (min n x.remaining) ∷ fs)) (turns_within s o (n - x.remaining) xs live.1 seq.1 t))
      (λ out.
      let k = cond-false (within s limit x) (x ∷ keep (within s limit) xs) (keep (within s limit) xs) out ∙ none_within s x xs live.0 live.1 seq.0 out in
      let z : n ≡ 0 = let g = ap total k in omega arith in
      turns_none s o n _ z ∙ sym (turns_none s o n (x ∷ xs) z))
      (cases_Bool (within s limit x))

  pub takes_within : (s : Side) (n : ℕ) (os : List Order) → AllLive (other s) next os → InSequence rule os → n ≤ total (keep (within s limit) os) →
      takes n (keep (within s limit) os) ≡ takes n os
  takes_within s n [] live seq h = refl
  takes_within s n (x ∷ xs) live seq h =
      ⊎_elim
      (λ in'.
      let k = cond-true (within s limit x) (x ∷ keep (within s limit) xs) (keep (within s limit) xs) in' in
      let t : n - x.remaining ≤ total (keep (within s limit) xs) = let g = ap total k in omega arith in
      ap (takes n) k ∙ ap (λ ps. cond (eqb n 0) [] ((x, min n x.remaining) ∷ ps)) (takes_within s (n - x.remaining) xs live.1 seq.1 t))
      (λ out.
      let k = cond-false (within s limit x) (x ∷ keep (within s limit) xs) (keep (within s limit) xs) out ∙ none_within s x xs live.0 live.1 seq.0 out in
      let z : n ≡ 0 = let g = ap total k in omega arith in
      none_taken n _ z ∙ sym (none_taken n (x ∷ xs) z))
      (cases_Bool (within s limit x))
