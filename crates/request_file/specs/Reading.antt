-- What a reader gives of a file. The records that it hands out are parts of the file, in its sequence and
-- apart from one another; where no refusal comes they make up the whole file, with the version byte and the
-- two length bytes before each. Assumes nothing.
use Rattle.std.specs.Prelude.{◌≡◌, ℕ, zero, suc, ◌+◌, ◌-◌, ◌*◌, cond, List, length, take, drop, Some, None, Ok, Err, Option, Result, ◌==◌, nat_le, nat_lt, slice_index}
use Rattle.orders.specs.declared.row.Row.{Row}
use Rattle.orders.specs.declared.refusal.Cause.{Cause}
use Rattle.orders.specs.declared.refusal.Cause.TheVariants.{BadVersion, CutShort, UnknownKind}
use Rattle.request_file.specs.declared.fault.Fault.{Fault}
use Rattle.request_file.specs.declared.position.Position.{Position}
use Rattle.request_file.specs.declared.position.Position.TheVariants.{Start, Before, Ended}
use Rattle.request_file.specs.declared.reader.Located.{Located}
use Rattle.request_file.specs.Records.{row_in, bytes_of, row_of}

-- a record by its offset, its bytes and the row that they hold
pub record Found : Type 0 where
  pub offset : ℕ
  pub bytes : List ℕ
  pub row : Row

-- what a call gives: a record, a refusal, or nothing
abbrev pub Given : Type 0
Given = Option (Result Found Fault)

-- a refusal at an offset, which ends the file
abbrev pub refusal : ℕ → Cause → Given
refusal o c = Some (Err (record { offset = o; cause = c }))

-- how many bytes the record at an offset has after its two length bytes, and which
abbrev pub length_at : List ℕ → ℕ → ℕ
length_at file o = slice_index file o * 256 + slice_index file (o + 1)

abbrev pub bytes_at : List ℕ → ℕ → List ℕ
bytes_at file o = take (length_at file o) (drop (o + 2) file)

abbrev pub framed : ℕ → List ℕ → Option Row → Given
framed o bs None = refusal o UnknownKind
framed o bs (Some row) = Some (Ok (record { offset = o; bytes = bs; row = row }))

-- the record at an offset
abbrev pub record_at : List ℕ → ℕ → Given
record_at file o =
    cond (nat_le (length file) o) None
    (cond (nat_lt (length file) (o + 2)) (refusal o CutShort)
    (cond (nat_lt (length file) (o + 2 + length_at file o)) (refusal o CutShort)
    (framed o (bytes_at file o) (row_in (bytes_at file o)))))

-- what a reader gives that stands somewhere in a file
abbrev pub gives : List ℕ → Position → Given
gives file Start = cond (slice_index file 0 == 1) (record_at file 1) (refusal 0 BadVersion)
gives file (Before o) = record_at file o
gives file Ended = None

-- where it stands after it gave that
abbrev pub onward : Given → Position
onward None = Ended
onward (Some (Err f)) = Ended
onward (Some (Ok f)) = Before (f.offset + 2 + length f.bytes)

-- where it stands after k calls, and what call k gives, counted from 0
abbrev pub position_after : List ℕ → ℕ → Position
position_after file zero = Start
position_after file (suc k) = onward (gives file (position_after file k))

abbrev pub given : List ℕ → ℕ → Given
given file k = gives file (position_after file k)

-- call k gave that, and left the reader there
pub record CallOf (file : List ℕ) (k : ℕ) (g : Given) (p : Position) : Type 0 where
  pub gave : g ≡ given file k
  pub stands : p ≡ position_after file (suc k)

-- one call of a reader: where it stood, what it gave, and where it stands
pub record Steps (file : List ℕ) (p : Position) (g : Given) (file' : List ℕ) (p' : Position) : Type 0 where
  pub file_stays : file' ≡ file
  pub gave : g ≡ gives file p
  pub stands : p' ≡ onward g

-- no more records than this are to come
abbrev pub bytes_left : List ℕ → Position → ℕ
bytes_left file Start = length file + 1
bytes_left file (Before o) = length file + 1 - o
bytes_left file Ended = 0

-- a result of the reader by what it holds
abbrev pub seen : Option (Result Located Fault) → Given
seen None = None
seen (Some (Err f)) = Some (Err f)
seen (Some (Ok l)) = Some (Ok (record { offset = l.offset; bytes = bytes_of l.record; row = row_of l.record }))
