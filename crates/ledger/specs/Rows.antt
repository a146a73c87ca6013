-- The totals of members, and what fills add to them. Assumes nothing.
use Rattle.std.specs.Prelude.{◌≡◌, ℕ, zero, suc, ◌+◌, ◌-◌, ◌*◌, ◌^◌, min, Bool, cond, ◌&&◌, List, [], ◌∷◌, ◌==◌, nat_le, nat_lt, slice_index_or, slice_set}
use Rattle.std.specs.List.{list_all}
use Rattle.orders.specs.declared.request.Side.{Side}
use Rattle.orders.specs.declared.request.Side.TheVariants.{Buy, Sell}
use Rattle.orders.specs.declared.order.Fill.{Fill}
use Rattle.ledger.specs.declared.row.Row.{Row}

-- what is counted: tonnes, or pence
pub data UnitOf : Type 0 where
  tonnes : UnitOf
  pence : UnitOf

-- a member's total on a side
abbrev pub total : Side → UnitOf → Row → ℕ
total Buy tonnes r = r.bought
total Buy pence r = r.pay
total Sell tonnes r = r.sold
total Sell pence r = r.receive

abbrev pub nothing : Row
nothing = record { bought = 0; sold = 0; pay = 0; receive = 0 }

-- the row of a member
abbrev pub row_of : List Row → ℕ → Row
row_of rows m = slice_index_or rows m nothing

-- the member of a fill on a side
abbrev pub party : Side → Fill → ℕ
party Buy f = f.buyer
party Sell f = f.seller

-- the tonnes of a fill, or its pence
abbrev pub amount : UnitOf → Fill → ℕ
amount tonnes f = f.quantity
amount pence f = f.price * f.quantity

-- both members of a fill have a row
abbrev pub known : Fill → Bool
known f = nat_lt f.buyer 64 && nat_lt f.seller 64

-- what a fill adds to a member's total; one with a member above 63 adds nothing
abbrev pub adds : Side → UnitOf → ℕ → Fill → ℕ
adds s u m f = cond (known f && party s f == m) (amount u f) 0

-- a number that stays at the largest that a total can hold
abbrev pub capped : ℕ → ℕ
capped n = min n (2 ^ 64 - 1)

-- two rows added up
abbrev pub added : Row → Row → Row
added a b = record { bought = capped (a.bought + b.bought); sold = capped (a.sold + b.sold); pay = capped (a.pay + b.pay); receive = capped (a.receive + b.receive) }

-- a row with more on a side
abbrev pub raised : Side → ℕ → ℕ → Row → Row
raised Buy t p r = record { bought = capped (r.bought + t); sold = r.sold; pay = capped (r.pay + p); receive = r.receive }
raised Sell t p r = record { bought = r.bought; sold = capped (r.sold + t); pay = r.pay; receive = capped (r.receive + p) }

-- the rows with more on a side of a member
abbrev pub raised_of : Side → ℕ → Fill → List Row → List Row
raised_of s m f rows = slice_set rows m (raised s (amount tonnes f) (amount pence f) (row_of rows m))

-- the rows after a fill, and after several
abbrev pub after_fill : Fill → List Row → List Row
after_fill f rows = cond (known f) (raised_of Sell f.seller f (raised_of Buy f.buyer f rows)) rows

abbrev pub after_fills : List Fill → List Row → List Row
after_fills [] rows = rows
after_fills (f ∷ fs) rows = after_fills fs (after_fill f rows)

-- no total of the rows is above the limit
abbrev pub limit : ℕ
limit = 1000000000000

abbrev pub row_within : Row → Bool
row_within r = nat_le r.bought limit && (nat_le r.sold limit && (nat_le r.pay limit && nat_le r.receive limit))

abbrev pub all_within : List Row → Bool
all_within = list_all row_within

-- a sum over the members below a number
unfoldable pub over_members : ℕ → (ℕ → ℕ) → ℕ
over_members zero f = 0
over_members (suc n) f = f n + over_members n f

-- each total of a row is the sum over the members below a number
abbrev pub SumOfRows : ℕ → List Row → Row → Type 0
SumOfRows n rows sum = (s : Side) (u : UnitOf) → total s u sum ≡ over_members n (λ m. total s u (row_of rows m))

-- all the pence to pay are all the pence to receive
abbrev pub Balanced : List Row → Type 0
Balanced rows = over_members 64 (λ m. total Buy pence (row_of rows m)) ≡ over_members 64 (λ m. total Sell pence (row_of rows m))
