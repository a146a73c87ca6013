-- What fills add to each total, and whether all stay within the limit. Assumes nothing.
use Rattle.std.proofs.Common.{◌≡◌, ℕ, zero, suc, ◌+◌, ◌<◌, ◌≤◌, Bool, true, false, cond, ◌&&◌, eqb, ltb, ◌≢◌, List, [], ◌∷◌, length, get_or, drop, Ok, sym, refl, ap, ◌∙◌, subst, add_assoc, arith, length-set}
use Rattle.std.proofs.lemmas.List.{get_or-set_same, get_or-set_other, drop_more, drop_all}
use Rattle.std.proofs.lemmas.Bool.{cond_both, true≢false, and_parts, and_from, ltb-true}
use Rattle.std.proofs.lemmas.Bool.Decides.{nat_tests}
use Rattle.orders.specs.declared.request.Side.{Side}
use Rattle.orders.specs.declared.request.Side.TheVariants.{Buy, Sell}
use Rattle.orders.specs.declared.order.Fill.{Fill}
use Rattle.ranking.specs.Sequence.{sum_of}
use Rattle.ledger.specs.declared.row.Row.{Row}
use Rattle.ledger.specs.Rows.{UnitOf, total, row_of, party, amount, known, adds, capped, raised, raised_of, after_fill, after_fills, limit, row_within, all_within}
use Rattle.ledger.specs.Rows.UnitOf.{tonnes, pence}
use Rattle.ledger.specs.Booking.{due, Fits, Booked}

-- sums that stay at the largest number
capped_add : (x y z : ℕ) → capped x ≡ capped y → capped (x + z) ≡ capped (y + z)
capped_add x y z e = omega arith

raised_row : (s : Side) (b : ℕ) (f : Fill) (rows : List Row) (m : ℕ) → b < length rows →
    row_of (raised_of s b f rows) m ≡ cond (eqb b m) (raised s (amount tonnes f) (amount pence f) (row_of rows m)) (row_of rows m)
raised_row s b f rows m h =
    cond_both (eqb b m) (raised s (amount tonnes f) (amount pence f) (row_of rows m)) (row_of rows m) (λ r. row_of (raised_of s b f rows) m ≡ r)
    (λ e.
    let same : b ≡ m = grind (arith, nat_tests) in
    subst (λ n. row_of (raised_of s b f rows) n ≡ raised s (amount tonnes f) (amount pence f) (row_of rows n)) same (get_or-set_same rows b _ _ h))
    (λ e.
    let other : m ≢ b = grind (arith, nat_tests) in
    get_or-set_other rows b m _ _ other)

abbrev on : Side → Bool → Bool → Bool
on Buy buyer seller = buyer
on Sell buyer seller = seller

-- a fill of a buyer or not, of a seller or not, over one row
step : (s : Side) (u : UnitOf) (f : Fill) (r : Row) (buyer seller : Bool) →
    capped (total s u (cond seller (raised Sell (amount tonnes f) (amount pence f) (cond buyer (raised Buy (amount tonnes f) (amount pence f) r) r)) (cond buyer (raised Buy (amount tonnes f) (amount pence f) r) r))) ≡
    capped (total s u r + cond (on s buyer seller) (amount u f) 0)
step Buy tonnes f r true true = omega arith
step Buy tonnes f r true false = omega arith
step Buy tonnes f r false true = omega arith
step Buy tonnes f r false false = omega arith
step Buy pence f r true true = omega arith
step Buy pence f r true false = omega arith
step Buy pence f r false true = omega arith
step Buy pence f r false false = omega arith
step Sell tonnes f r true true = omega arith
step Sell tonnes f r true false = omega arith
step Sell tonnes f r false true = omega arith
step Sell tonnes f r false false = omega arith
step Sell pence f r true true = omega arith
step Sell pence f r true false = omega arith
step Sell pence f r false true = omega arith
step Sell pence f r false false = omega arith

on_party : (s : Side) (f : Fill) (m : ℕ) → on s (eqb f.buyer m) (eqb f.seller m) ≡ eqb (party s f) m
on_party Buy f m = refl
on_party Sell f m = refl

length_raised : (s : Side) (b : ℕ) (f : Fill) (rows : List Row) → length (raised_of s b f rows) ≡ length rows
length_raised s b f rows = length-set rows b _

length_after : (f : Fill) (rows : List Row) → length (after_fill f rows) ≡ length rows
length_after f rows =
    cond_both (known f) (raised_of Sell f.seller f (raised_of Buy f.buyer f rows)) rows (λ after. length after ≡ length rows)
    (λ _. length_raised Sell f.seller f (raised_of Buy f.buyer f rows) ∙ length_raised Buy f.buyer f rows) (λ _. refl)

length_after_all : (fs : List Fill) (rows : List Row) → length (after_fills fs rows) ≡ length rows
length_after_all [] rows = refl
length_after_all (f ∷ fs) rows = length_after_all fs (after_fill f rows) ∙ length_after f rows

pub known_both : (f : Fill) → known f ≡ true → (f.buyer < 64) × (f.seller < 64)
known_both f e = let parts = and_parts (ltb f.buyer 64) (ltb f.seller 64) e in (ltb-true f.buyer 64 parts.0, ltb-true f.seller 64 parts.1)

module _ (s : Side) (u : UnitOf) (m : ℕ) where
  fill_by : (is_known : Bool) (f : Fill) (rows : List Row) → (is_known ≡ true → (f.buyer < length rows) × (f.seller < length rows)) →
      capped (total s u (row_of (cond is_known (raised_of Sell f.seller f (raised_of Buy f.buyer f rows)) rows) m)) ≡
      capped (total s u (row_of rows m) + cond (is_known && eqb (party s f) m) (amount u f) 0)
  fill_by false f rows h = omega arith
  fill_by true f rows h =
      let bought = raised_row Buy f.buyer f rows m (h refl).0 in
      let long : f.seller < length (raised_of Buy f.buyer f rows) = rw (length_raised Buy f.buyer f rows) (h refl).1 in
      let sold = raised_row Sell f.seller f (raised_of Buy f.buyer f rows) m long in
      ap (λ r. capped (total s u r)) (sold ∙ ap (λ r. cond (eqb f.seller m) (raised Sell (amount tonnes f) (amount pence f) r) r) bought) ∙
      (step s u f (row_of rows m) (eqb f.buyer m) (eqb f.seller m) ∙ ap (λ b. capped (total s u (row_of rows m) + cond b (amount u f) 0)) (on_party s f m))

  fills_by : (fs : List Fill) (rows : List Row) → length rows ≡ 64 → capped (total s u (row_of (after_fills fs rows) m)) ≡ capped (due rows fs s u m)
  fills_by [] rows h = omega arith
  fills_by (f ∷ fs) rows h =
      fills_by fs (after_fill f rows) (length_after f rows ∙ h) ∙
      (capped_add _ _ (sum_of (adds s u m) fs) (fill_by (known f) f rows (λ e. rw h (known_both f e))) ∙
      ap capped (add_assoc (total s u (row_of rows m)) (adds s u m f) (sum_of (adds s u m) fs)))

-- whether each total is within the limit
pub row_within_lem : (s : Side) (u : UnitOf) (r : Row) → row_within r ≡ true → total s u r ≤ limit
row_within_lem Buy tonnes r e = grind (arith, nat_tests)
row_within_lem Buy pence r e = grind (arith, nat_tests)
row_within_lem Sell tonnes r e = grind (arith, nat_tests)
row_within_lem Sell pence r e = grind (arith, nat_tests)

within_each : (s : Side) (u : UnitOf) (rows : List Row) → all_within rows ≡ true → (m : ℕ) → m < length rows → total s u (row_of rows m) ≤ limit
within_each s u [] e m h = absurd (omega arith)
within_each s u (r ∷ rs) e zero h = row_within_lem s u r (and_parts (row_within r) (all_within rs) e).0
within_each s u (r ∷ rs) e (suc m) h = within_each s u rs (and_parts (row_within r) (all_within rs) e).1 m (omega arith)

within_all : (rows : List Row) → ((s : Side) (u : UnitOf) (m : ℕ) → m < length rows → total s u (row_of rows m) ≤ limit) → all_within rows ≡ true
within_all [] h = refl
within_all (r ∷ rs) h =
    let a = h Buy tonnes 0 (omega arith) in
    let b = h Sell tonnes 0 (omega arith) in
    let c = h Buy pence 0 (omega arith) in
    let d = h Sell pence 0 (omega arith) in
    let one : row_within r ≡ true = grind (arith, nat_tests) in
    and_from (row_within r) (all_within rs) one (within_all rs (λ s u m k. h s u (suc m) (omega arith)))

-- one more fill added
module _ (fs : List Fill) (i : ℕ) (rows goal : List Row) (inv : after_fills (drop i fs) rows ≡ goal) where
  pub fills_more : (f : Fill) (after : List Row) → i < length fs → after ≡ after_fill (get_or fs i f) rows → after_fills (drop (i + 1) fs) after ≡ goal
  fills_more f after h e = ap (after_fills (drop (i + 1) fs)) e ∙ (sym (ap (λ gs. after_fills gs rows) (drop_more fs i f h)) ∙ inv)

  pub fills_end : length fs ≤ i → rows ≡ goal
  fills_end h = sym (ap (λ gs. after_fills gs rows) (drop_all i fs h)) ∙ inv

module _ (rows : List Row) (fs : List Fill) (after : List Row) (is : after ≡ after_fills fs rows) (h : length after ≡ 64) where
  by : (s : Side) (u : UnitOf) (m : ℕ) → capped (total s u (row_of after m)) ≡ capped (due rows fs s u m)
  by s u m = ap (λ v. capped (total s u (row_of v m))) is ∙ fills_by s u m fs rows (sym (length_after_all fs rows) ∙ (sym (ap length is) ∙ h))

  long : (m : ℕ) → m < 64 → m < length after
  long m k = rw h k

  pub fits : true ≡ all_within after → Fits rows fs
  fits e s u m k = let w = within_each s u after (sym e) m (long m k) in let b = by s u m in omega arith

  pub books : true ≡ all_within after → Booked rows fs after (Ok tt)
  books e s u m k = let w = within_each s u after (sym e) m (long m k) in let b = by s u m in omega arith

  pub passes : false ≡ all_within after → Fits rows fs → ⊥
  passes e f =
      true≢false
      (sym
      (within_all after
      (λ s u m k.
      let inside : m < 64 = rw h at k in
      let b = by s u m in
      let d = f s u m inside in
      omega arith)) ∙ sym e)
