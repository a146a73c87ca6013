-- What all members buy is what all sell, in tonnes and in pence. Assumes nothing.
use Rattle.std.proofs.Common.{◌≡◌, ℕ, zero, suc, ◌+◌, ◌<◌, Bool, true, false, cond, ◌&&◌, eqb, ltb, List, [], ◌∷◌, replicate, Ok, sym, refl, ap, ◌∙◌, arith}
use Rattle.std.proofs.lemmas.List.{get_or-replicate}
use Rattle.std.proofs.lemmas.Bool.Decides.{nat_tests}
use Rattle.orders.specs.declared.request.Side.TheVariants.{Buy, Sell}
use Rattle.orders.specs.declared.order.Fill.{Fill}
use Rattle.ranking.specs.Sequence.{sum_of}
use Rattle.ledger.specs.declared.row.Row.{Row}
use Rattle.ledger.specs.Rows.{UnitOf, total, nothing, row_of, amount, known, adds, over_members, Balanced}
use Rattle.ledger.specs.Rows.UnitOf.{pence}
use Rattle.ledger.specs.Booking.{due, Booked}
use Rattle.ledger.proofs.Adding.{known_both}

over_same : (n : ℕ) (f g : ℕ → ℕ) → ((m : ℕ) → m < n → f m ≡ g m) → over_members n f ≡ over_members n g
unfolding over_members
over_same zero f g h = refl
over_same (suc n) f g h = let here = h n (omega arith) in let rest = over_same n f g (λ m k. h m (omega arith)) in omega arith

over_sum : (n : ℕ) (f g : ℕ → ℕ) → over_members n (λ m. f m + g m) ≡ over_members n f + over_members n g
unfolding over_members
over_sum zero f g = refl
over_sum (suc n) f g = let rest = over_sum n f g in omega arith

over_none : (n : ℕ) → over_members n (λ _. 0) ≡ 0
unfolding over_members
over_none zero = refl
over_none (suc n) = let rest = over_none n in omega arith

-- one member alone
over_one : (n b a : ℕ) → over_members n (λ m. cond (eqb b m) a 0) ≡ cond (ltb b n) a 0
unfolding over_members
over_one zero b a = grind (arith, nat_tests)
over_one (suc n) b a = let rest = over_one n b a in grind (arith, nat_tests)

one_fill : (n b c a : ℕ) (is_known : Bool) → (is_known ≡ true → (b < n) × (c < n)) →
    over_members n (λ m. cond (is_known && eqb b m) a 0) ≡ over_members n (λ m. cond (is_known && eqb c m) a 0)
one_fill n b c a true h =
    let p = over_one n b a in
    let q = over_one n c a in
    let i = (h refl).0 in
    let j = (h refl).1 in
    let same : cond (ltb b n) a 0 ≡ cond (ltb c n) a 0 = grind (arith, nat_tests) in
    p ∙ (same ∙ sym q)
one_fill n b c a false h = refl

pub fills_balance : (u : UnitOf) (fs : List Fill) → over_members 64 (λ m. sum_of (adds Buy u m) fs) ≡ over_members 64 (λ m. sum_of (adds Sell u m) fs)
fills_balance u [] = refl
fills_balance u (f ∷ fs) =
    let one = one_fill 64 f.buyer f.seller (amount u f) (known f) (known_both f) in
    over_sum 64 (λ m. adds Buy u m f) (λ m. sum_of (adds Buy u m) fs) ∙
    (ap (λ n. n + over_members 64 (λ m. sum_of (adds Buy u m) fs)) one ∙
    (ap (λ n. over_members 64 (λ m. adds Sell u m f) + n) (fills_balance u fs) ∙
    sym (over_sum 64 (λ m. adds Sell u m f) (λ m. sum_of (adds Sell u m) fs))))

pub none_balance : Balanced (replicate 64 nothing)
none_balance =
    over_same 64 (λ m. total Buy pence (row_of (replicate 64 nothing) m)) (λ m. total Sell pence (row_of (replicate 64 nothing) m))
    (λ m h. let e = get_or-replicate 64 m nothing nothing h in ap (total Buy pence) e ∙ sym (ap (total Sell pence) e))

pub booked_balance : (rows after : List Row) (fs : List Fill) → Balanced rows → Booked rows fs after (Ok tt) → Balanced after
booked_balance rows after fs e h =
    over_same 64 (λ m. total Buy pence (row_of after m)) (λ m. due rows fs Buy pence m) (h Buy pence) ∙
    (over_sum 64 (λ m. total Buy pence (row_of rows m)) (λ m. sum_of (adds Buy pence m) fs) ∙
    (ap (λ n. n + over_members 64 (λ m. sum_of (adds Buy pence m) fs)) e ∙
    (ap (λ n. over_members 64 (λ m. total Sell pence (row_of rows m)) + n) (fills_balance pence fs) ∙
    (sym (over_sum 64 (λ m. total Sell pence (row_of rows m)) (λ m. sum_of (adds Sell pence m) fs)) ∙
    sym (over_same 64 (λ m. total Sell pence (row_of after m)) (λ m. due rows fs Sell pence m) (h Sell pence))))))
