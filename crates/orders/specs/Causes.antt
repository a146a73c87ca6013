-- The causes of refusal: their numbers and names, and how several tests are put in sequence. Assumes nothing.
use Rattle.std.specs.Prelude.{ℕ, Bool, true, false, List, Some, None, codes, Option}
use Rattle.orders.specs.declared.refusal.Cause.{Cause}
use Rattle.orders.specs.declared.refusal.Cause.TheVariants.{BadSetup, BadVersion, CutShort, UnknownKind, UnknownMember, BadSideOrLife, OutOfRange, OverCap, OutsideCollar, FillListShort, WrongPhase, NoSuchOrder, BookFull, NumbersSpent, BelowMinimum, ClaimFails, LedgerFull}

-- the number of a cause
abbrev pub cause_number : Cause → ℕ
cause_number BadSetup = 1
cause_number BadVersion = 2
cause_number CutShort = 3
cause_number UnknownKind = 4
cause_number UnknownMember = 5
cause_number BadSideOrLife = 6
cause_number OutOfRange = 7
cause_number OverCap = 8
cause_number OutsideCollar = 9
cause_number FillListShort = 10
cause_number WrongPhase = 11
cause_number NoSuchOrder = 12
cause_number BookFull = 13
cause_number NumbersSpent = 14
cause_number BelowMinimum = 15
cause_number ClaimFails = 16
cause_number LedgerFull = 17

-- the words for it, as bytes
abbrev pub cause_name : Cause → List ℕ
cause_name BadSetup = codes "bad set-up"
cause_name BadVersion = codes "bad version"
cause_name CutShort = codes "cut short"
cause_name UnknownKind = codes "unknown kind"
cause_name UnknownMember = codes "unknown member"
cause_name BadSideOrLife = codes "bad side or life"
cause_name OutOfRange = codes "out of range"
cause_name OverCap = codes "over the cap"
cause_name OutsideCollar = codes "outside the collar"
cause_name FillListShort = codes "fill list too short"
cause_name WrongPhase = codes "wrong phase"
cause_name NoSuchOrder = codes "no such order"
cause_name BookFull = codes "book full"
cause_name NumbersSpent = codes "numbers spent"
cause_name BelowMinimum = codes "below the minimum"
cause_name ClaimFails = codes "claim fails"
cause_name LedgerFull = codes "ledger full"

-- a cause, if a test holds
abbrev pub when : Bool → Cause → Option Cause
when true c = Some c
when false c = None

-- the cause that comes first of two tests in sequence
abbrev pub first : Option Cause → Option Cause → Option Cause
first None r = r
first (Some c) r = Some c
