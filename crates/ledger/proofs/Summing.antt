-- The totals of all members, summed one member after the other. Assumes nothing.
use Rattle.std.proofs.Common.{◌≡◌, ℕ, zero, suc, ◌+◌, ◌*◌, ◌<◌, ◌≤◌, true, List, [], ◌∷◌, refl, ap, add-one, arith}
use Rattle.std.proofs.lemmas.Bool.{and_parts}
use Rattle.orders.specs.declared.request.Side.{Side}
use Rattle.orders.specs.declared.request.Side.TheVariants.{Buy, Sell}
use Rattle.ledger.specs.declared.row.Row.{Row}
use Rattle.ledger.specs.Rows.{UnitOf, total, nothing, row_of, capped, added, limit, row_within, all_within, over_members, SumOfRows}
use Rattle.ledger.specs.Rows.UnitOf.{tonnes, pence}
use Rattle.ledger.proofs.Adding.{row_within_lem}

-- no total of any member is above the limit
pub member_within : (s : Side) (u : UnitOf) (rows : List Row) → all_within rows ≡ true → (m : ℕ) → total s u (row_of rows m) ≤ limit
member_within Buy tonnes [] e m = omega arith
member_within Buy pence [] e m = omega arith
member_within Sell tonnes [] e m = omega arith
member_within Sell pence [] e m = omega arith
member_within s u (r ∷ rs) e zero = row_within_lem s u r (and_parts (row_within r) (all_within rs) e).0
member_within s u (r ∷ rs) e (suc m) = member_within s u rs (and_parts (row_within r) (all_within rs) e).1 m

-- two rows added up, without a largest number
abbrev pub plus : Row → Row → Row
plus a b = record { bought = a.bought + b.bought; sold = a.sold + b.sold; pay = a.pay + b.pay; receive = a.receive + b.receive }

plus_total : (s : Side) (u : UnitOf) (a b : Row) → total s u (plus a b) ≡ total s u a + total s u b
plus_total Buy tonnes a b = refl
plus_total Buy pence a b = refl
plus_total Sell tonnes a b = refl
plus_total Sell pence a b = refl

added_total : (s : Side) (u : UnitOf) (a b : Row) → total s u (added a b) ≡ capped (total s u a + total s u b)
added_total Buy tonnes a b = refl
added_total Buy pence a b = refl
added_total Sell tonnes a b = refl
added_total Sell pence a b = refl

-- the members below a number are summed
pub record Summed (rows : List Row) (n : ℕ) (sum : Row) : Type 0 where
  pub sums : SumOfRows n rows sum
  pub low : (s : Side) (u : UnitOf) → total s u sum ≤ n * limit

module _ (rows : List Row) (within : all_within rows ≡ true) where
  pub summed_none : Summed rows 0 nothing
  unfolding over_members
  summed_none = record { sums = none; low = λ s u. let z = none s u in omega arith }
    where
      none : (s : Side) (u : UnitOf) → total s u nothing ≡ 0
      none Buy tonnes = refl
      none Buy pence = refl
      none Sell tonnes = refl
      none Sell pence = refl

  -- one more row fits
  pub sum_fits : (n : ℕ) (sum row : Row) → Summed rows n sum → row ≡ row_of rows n → n < 64 → (s : Side) (u : UnitOf) → total s u sum + total s u row ≤ 64 * limit
  sum_fits n sum row so is few s u =
      let own = ap (total s u) is in
      let high = member_within s u rows within n in
      let before = so.low s u in
      omega arith

  -- a sum without a largest number
  pub summed_more : (n : ℕ) (sum row : Row) → Summed rows n sum → row ≡ row_of rows n → Summed rows (n + 1) (plus sum row)
  unfolding over_members
  summed_more n sum row so is = record {
    sums = λ s u.
        let here = plus_total s u sum row in
        let own = ap (total s u) is in
        let before = so.sums s u in
        rw add-one (omega arith);
    low = λ s u.
        let here = plus_total s u sum row in
        let own = ap (total s u) is in
        let high = member_within s u rows within n in
        let before = so.low s u in
        omega arith;
  }

  -- a sum that stays at the largest number, which no sum of members' rows passes
  pub summed_added : (n : ℕ) (sum row : Row) → Summed rows n sum → row ≡ row_of rows n → n < 64 → Summed rows (n + 1) (added sum row)
  unfolding over_members
  summed_added n sum row so is few = record {
    sums = λ s u.
        let here = added_total s u sum row in
        let fits = sum_fits n sum row so is few s u in
        let own = ap (total s u) is in
        let before = so.sums s u in
        rw add-one (omega arith);
    low = λ s u.
        let here = added_total s u sum row in
        let own = ap (total s u) is in
        let high = member_within s u rows within n in
        let before = so.low s u in
        omega arith;
  }
