-- Plain rows, and the requests that are made from them. Assumes nothing.
use Rattle.std.specs.Prelude.{◌≡◌, ℕ, Bool, cond, not, ◌&&◌, ◌||◌, Some, None, Ok, Err, ok_or, Option, Result, ◌==◌, nat_lt}
use Rattle.orders.specs.declared.refusal.Cause.{Cause}
use Rattle.orders.specs.declared.refusal.Cause.TheVariants.{UnknownMember, BadSideOrLife, OutOfRange}
use Rattle.orders.specs.declared.request.Side.{Side}
use Rattle.orders.specs.declared.request.Side.TheVariants.{Buy, Sell}
use Rattle.orders.specs.declared.request.Life.{Life}
use Rattle.orders.specs.declared.request.Life.TheVariants.{Rest, Kill}
use Rattle.orders.specs.declared.entry.Entry.{Entry}
use Rattle.orders.specs.declared.cancel.Cancel.{Cancel}
use Rattle.orders.specs.declared.request.Request.{Request}
use Rattle.orders.specs.declared.request.Request.TheVariants.{Enter as EnterRequest, Withdraw as WithdrawRequest, Call as CallRequest, Halt as HaltRequest}
use Rattle.orders.specs.declared.row.EntryRow.{EntryRow}
use Rattle.orders.specs.declared.row.CancelRow.{CancelRow}
use Rattle.orders.specs.declared.row.Row.{Row}
use Rattle.orders.specs.declared.row.Row.TheVariants.{Enter, Withdraw, Call, Halt}
use Rattle.orders.specs.Causes.{when, first}

-- the numbers of the sides and lives
abbrev pub side_number : Side → ℕ
side_number Buy = 1
side_number Sell = 2

abbrev pub life_number : Life → ℕ
life_number Rest = 1
life_number Kill = 2

-- a request as a row
abbrev pub entry_row : Entry → EntryRow
entry_row e = record { member = e.member; side = side_number e.side; life = life_number e.life; price = e.price; quantity = e.quantity; minimum = e.minimum }

abbrev pub cancel_row : Cancel → CancelRow
cancel_row c = record { member = c.member; number = c.number }

abbrev pub row_of : Request → Row
row_of (EnterRequest e) = Enter (entry_row e)
row_of (WithdrawRequest c) = Withdraw (cancel_row c)
row_of CallRequest = Call
row_of HaltRequest = Halt

-- the side and the life of a number, if it has one
abbrev pub side_of : ℕ → Option Side
side_of n = cond (n == 1) (Some Buy) (cond (n == 2) (Some Sell) None)

abbrev pub life_of : ℕ → Option Life
life_of n = cond (n == 1) (Some Rest) (cond (n == 2) (Some Kill) None)

abbrev pub SideNumbered : ℕ → Result Side Cause → Type 0
SideNumbered n r = r ≡ ok_or (side_of n) BadSideOrLife

abbrev pub LifeNumbered : ℕ → Result Life Cause → Type 0
LifeNumbered n r = r ≡ ok_or (life_of n) BadSideOrLife

-- neither 1 nor 2
abbrev pub neither : ℕ → Bool
neither n = not (n == 1) && not (n == 2)

-- a price, a quantity or a minimum that no entry has
abbrev pub out_of_range : EntryRow → Bool
out_of_range r =
    nat_lt r.price 1 || (nat_lt 100000 r.price || (nat_lt r.quantity 1 || (nat_lt 50000 r.quantity || nat_lt r.quantity r.minimum)))

-- what is wrong with a row, if anything: the first of the tests that fails
abbrev pub member_fault : ℕ → Option Cause
member_fault m = when (nat_lt 63 m) UnknownMember

abbrev pub entry_fault : EntryRow → Option Cause
entry_fault r =
    first (member_fault r.member)
    (first (when (neither r.side || neither r.life) BadSideOrLife)
    (when (out_of_range r) OutOfRange))

abbrev pub fault : Row → Option Cause
fault (Enter r) = entry_fault r
fault (Withdraw r) = member_fault r.member
fault Call = None
fault Halt = None

-- what is made of a row: the request that it is the row of, or the first fault
abbrev pub MadeEntry : EntryRow → Result Entry Cause → Type 0
MadeEntry row (Ok e) = (entry_row e ≡ row) × (entry_fault row ≡ None)
MadeEntry row (Err c) = entry_fault row ≡ Some c

abbrev pub MadeCancel : CancelRow → Result Cancel Cause → Type 0
MadeCancel row (Ok c) = (cancel_row c ≡ row) × (member_fault row.member ≡ None)
MadeCancel row (Err c) = member_fault row.member ≡ Some c

abbrev pub Made : Row → Result Request Cause → Type 0
Made row (Ok q) = (row_of q ≡ row) × (fault row ≡ None)
Made row (Err c) = fault row ≡ Some c
