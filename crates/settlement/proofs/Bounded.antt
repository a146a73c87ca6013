-- Where no member buys more than 1,000 tonnes, no total passes the limit.
use Rattle.std.proofs.Common.{◌≡◌, ℕ, zero, suc, ◌+◌, ◌*◌, ◌<◌, ◌≤◌, Bool, true, false, cond, ◌&&◌, eqb, List, [], ◌∷◌, ◌++◌, refl, ap, ◌∙◌, ⊎_elim, mul-le-mul_right, arith}
use Rattle.std.proofs.lemmas.Bool.{cases_lt}
use Rattle.orders.specs.declared.request.Side.{Side}
use Rattle.orders.specs.declared.request.Side.TheVariants.{Buy, Sell}
use Rattle.orders.specs.declared.order.Fill.{Fill}
use Rattle.plain.specs.Account.{Dealt, bought_in, bought}
use Rattle.ranking.specs.Sequence.{sum_of}
use Rattle.ledger.specs.Rows.{UnitOf, known, adds, limit, over_members}
use Rattle.ledger.specs.Rows.UnitOf.{tonnes, pence}
use Rattle.ledger.proofs.Balance.{fills_balance}
use Rattle.settlement.specs.Totals.{fills_in}
use Rattle.settlement.proofs.Priced.{AllPriced}

bought_append : (m : ℕ) (fs gs : List Fill) → bought_in m (fs ++ gs) ≡ bought_in m fs + bought_in m gs
bought_append m [] gs = omega arith
bought_append m (f ∷ fs) gs = let rest = bought_append m fs gs in omega arith

-- what a member bought, by record and by fills
pub bought_fills : (m : ℕ) (ds : List Dealt) → bought_in m (fills_in ds) ≡ bought m ds
bought_fills m [] = refl
bought_fills m (d ∷ ds) = bought_append m d.fills (fills_in ds) ∙ ap (λ n. bought_in m d.fills + n) (bought_fills m ds)

both_low : (x y : Bool) (n : ℕ) → cond (x && y) n 0 ≤ cond y n 0
both_low true true n = omega arith
both_low true false n = omega arith
both_low false true n = omega arith
both_low false false n = omega arith

tonnes_low : (m : ℕ) (fs : List Fill) → sum_of (adds Buy tonnes m) fs ≤ bought_in m fs
tonnes_low m [] = omega arith
tonnes_low m (f ∷ fs) = let one = both_low (known f) (eqb f.buyer m) f.quantity in let rest = tonnes_low m fs in omega arith

scaled : (x : Bool) (p n : ℕ) → p ≤ 100000 → cond x (p * n) 0 ≤ 100000 * cond x n 0
scaled true p n h = mul-le-mul_right n h
scaled false p n h = omega arith

pence_low : (m : ℕ) (fs : List Fill) → AllPriced fs → sum_of (adds Buy pence m) fs ≤ 100000 * sum_of (adds Buy tonnes m) fs
pence_low m [] h = omega arith
pence_low m (f ∷ fs) h = let one = scaled (known f && eqb f.buyer m) f.price f.quantity h.0 in let rest = pence_low m fs h.1 in omega arith

over_high : (n : ℕ) (f : ℕ → ℕ) → ((m : ℕ) → m < n → f m ≤ 100000000) → over_members n f ≤ n * 100000000
unfolding over_members
over_high zero f h = omega arith
over_high (suc n) f h = let here = h n (omega arith) in let rest = over_high n f (λ m k. h m (omega arith)) in omega arith

over_each : (n m : ℕ) (f : ℕ → ℕ) → m < n → f m ≤ over_members n f
unfolding over_members
over_each zero m f h = absurd (omega arith)
over_each (suc n) m f h =
    ⊎_elim (λ less. let rest = over_each n m f less in omega arith) (λ last. let is : m ≡ n = omega arith in let same = ap f is in omega arith) (cases_lt m n)

module _ (fs : List Fill) (priced : AllPriced fs) (few : (m : ℕ) → bought_in m fs ≤ 1000) where
  buys_within : (u : UnitOf) (m : ℕ) → sum_of (adds Buy u m) fs ≤ 100000000
  buys_within tonnes m = omega (arith, tonnes_low m fs, few m)
  buys_within pence m = omega (arith, pence_low m fs priced, tonnes_low m fs, few m)

  pub all_within : (s : Side) (u : UnitOf) (m : ℕ) → m < 64 → sum_of (adds s u m) fs ≤ limit
  all_within Buy u m h = omega (arith, buys_within u m)
  all_within Sell u m h =
      let one = over_each 64 m (λ k. sum_of (adds Sell u k) fs) h in
      let same = fills_balance u fs in
      let all = over_high 64 (λ k. sum_of (adds Buy u k) fs) (λ k _. buys_within u k) in
      omega arith
