-- Items settled one after the other between two venues. Assumes nothing.
use Rattle.std.specs.Prelude.{◌≡◌, ℕ, ◌+◌, List, [], ◌∷◌, ◌++◌, length, Some, None, Ok, Err, Option, Result}
use Rattle.orders.specs.declared.request.Request.{Request}
use Rattle.orders.specs.declared.refusal.Cause.{Cause}
use Rattle.plain.specs.Book.{Tape}
use Rattle.venue.specs.Meaning.{Setup}
use Rattle.ledger.specs.declared.row.Row.{Row}
use Rattle.settling.specs.declared.fault.Fault.{Fault}
use Rattle.settling.specs.declared.fault.Noted.{Noted}
use Rattle.settling.specs.Replies.{tape_after}
use Rattle.settling.specs.Settled.{Settled}

-- an item of a list: a request, or why there is none
abbrev pub Item : Type 0
Item = Result Request Cause

-- the tape after an item: no request, no change
abbrev pub tape_of : Item → Setup → Tape → Tape
tape_of (Ok q) v t = tape_after v t q
tape_of (Err c) v t = t

-- the tape after items: of their requests those that the gate admits, each after those before it
abbrev pub tape_from : List Item → Setup → Tape → Tape
tape_from [] v t = t
tape_from (x ∷ xs) v t = tape_from xs v (tape_of x v t)

-- an item settled: no request, no change
abbrev pub ItemSettled : Item → Setup → Setup → Tape → Tape → List Row → List Row → Option Fault → Type 0
ItemSettled (Ok q) v w t u rows rows' fault = Settled v w t u q rows rows' fault
ItemSettled (Err c) v w t u rows rows' fault = (rows' ≡ rows) × (fault ≡ None)

-- a fault as it is noted
abbrev pub noted : ℕ → Option Fault → List Noted
noted n None = []
noted n (Some f) = record { count = n; fault = f } ∷ []

-- items settled one after the other from two tapes and a ledger on: the ledger after them, and each fault with its item's count from 1
pub data AllSettled (v w : Setup) (t u : Tape) (rows : List Row) : List Item → List Row → List Noted → Type 0 where
  none : AllSettled v w t u rows [] rows []
  more : {xs : List Item} {rows' : List Row} {notes : List Noted} (x : Item) (rows'' : List Row) (fault : Option Fault) → AllSettled v w t u rows xs rows' notes →
      ItemSettled x v w (tape_from xs v t) (tape_from xs w u) rows' rows'' fault → AllSettled v w t u rows (xs ++ x ∷ []) rows'' (notes ++ noted (length xs + 1) fault)
