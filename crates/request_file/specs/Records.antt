-- The bytes of a record, and the row that they hold. Assumes nothing.
use Rattle.std.specs.Prelude.{◌≡◌, ℕ, ◌+◌, ◌*◌, Bool, cond, ◌&&◌, List, length, Some, None, Option, ◌==◌, slice_index}
use Rattle.orders.specs.declared.row.Row.{Row}
use Rattle.orders.specs.declared.row.Row.TheVariants.{Enter, Withdraw, Call as CallRow, Halt as HaltRow}
use Rattle.request_file.specs.declared.record.Record.{Record}
use Rattle.request_file.specs.declared.record.Record.TheVariants.{Entry, Cancel, Call, Halt}

-- the number in the four bytes from a place on, the highest first
abbrev pub word : List ℕ → ℕ → ℕ
word bs i = slice_index bs i * 16777216 + slice_index bs (i + 1) * 65536 + slice_index bs (i + 2) * 256 + slice_index bs (i + 3)

-- whether bytes are a record of a kind and of that kind's length
abbrev pub is_record : ℕ → ℕ → List ℕ → Bool
is_record kind size bs = slice_index bs 0 == kind && length bs == size

-- the row that the bytes of a record hold, if they are one
abbrev pub row_in : List ℕ → Option Row
row_in bs =
    cond (is_record 1 16 bs) (Some (Enter (record { member = slice_index bs 1; side = slice_index bs 2; life = slice_index bs 3; price = word bs 4; quantity = word bs 8; minimum = word bs 12 })))
    (cond (is_record 2 6 bs) (Some (Withdraw (record { member = slice_index bs 1; number = word bs 2 })))
    (cond (is_record 3 1 bs) (Some CallRow)
    (cond (is_record 4 1 bs) (Some HaltRow) None)))

-- the bytes and the row of a record that was handed out
abbrev pub bytes_of : Record → List ℕ
bytes_of (Entry bs row) = bs.now
bytes_of (Cancel bs row) = bs.now
bytes_of (Call bs) = bs.now
bytes_of (Halt bs) = bs.now

abbrev pub row_of : Record → Row
row_of (Entry bs row) = Enter row
row_of (Cancel bs row) = Withdraw row
row_of (Call bs) = CallRow
row_of (Halt bs) = HaltRow

-- a record of the bytes with their row, or none where they hold none
abbrev pub TakenApart : List ℕ → Option Record → Type 0
TakenApart bs None = row_in bs ≡ None
TakenApart bs (Some r) = (bytes_of r ≡ bs) × (row_in bs ≡ Some (row_of r))
