-- The members' totals after a file was settled. Assumes nothing.
use Rattle.std.specs.Prelude.{◌≡◌, ℕ, ◌<◌, List, [], ◌∷◌, ◌++◌, replicate}
use Rattle.orders.specs.declared.request.Side.{Side}
use Rattle.orders.specs.declared.order.Fill.{Fill}
use Rattle.plain.specs.Book.{fresh}
use Rattle.plain.specs.Account.{Dealt, record_from}
use Rattle.ranking.specs.Sequence.{sum_of}
use Rattle.venue.specs.Meaning.{Setup}
use Rattle.ledger.specs.declared.row.Row.{Row}
use Rattle.ledger.specs.Rows.{UnitOf, total, nothing, row_of, adds}
use Rattle.settling.specs.declared.fault.Noted.{Noted}
use Rattle.settling.specs.Items.{Item, tape_from, AllSettled}

-- the fills of a record of deals, from the first to the last
abbrev pub fills_in : List Dealt → List Fill
fills_in [] = []
fills_in (d ∷ ds) = d.fills ++ fills_in ds

-- the fills that a fresh venue deals in answer to items: those of the plain book's record of the requests that the gate admits
abbrev pub fills_from : Setup → List Item → List Fill
fills_from v items = fills_in (record_from v.rule fresh (tape_from items v []))

-- each member's totals are the sums over all of them
abbrev pub TotalsAre : Setup → List Item → List Row → Type 0
TotalsAre v items rows = (s : Side) (u : UnitOf) (m : ℕ) → m < 64 → total s u (row_of rows m) ≡ sum_of (adds s u m) (fills_from v items)

-- items settled between two fresh venues of one set-up, with an empty ledger: each claim passed and was booked, each second reply was the same, and the totals are the sums over all fills
pub record Clear (v : Setup) (items : List Item) (rows : List Row) (notes : List Noted) : Type 0 where
  pub no_fault : notes ≡ []
  pub settled : AllSettled v v [] [] (replicate 64 nothing) items rows []
  pub totals : TotalsAre v items rows
