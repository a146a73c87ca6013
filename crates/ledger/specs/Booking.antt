-- What booking fills comes to, and when it is refused. Assumes nothing.
use Rattle.std.specs.Prelude.{◌≡◌, ℕ, ◌+◌, ◌<◌, ◌≤◌, true, List, Ok, Err, vec_items, Result}
use Rattle.orders.specs.declared.request.Side.{Side}
use Rattle.orders.specs.declared.order.Fill.{Fill}
use Rattle.orders.specs.declared.refusal.Cause.{Cause}
use Rattle.orders.specs.declared.refusal.Cause.TheVariants.{LedgerFull}
use Rattle.claims.specs.declared.check.Checked.{Checked}
use Rattle.ranking.specs.Sequence.{sum_of}
use Rattle.ledger.specs.declared.row.Row.{Row}
use Rattle.ledger.specs.Rows.{UnitOf, total, row_of, adds, limit, all_within}

-- the fills of a checked claim
abbrev pub fills_of : Checked → List Fill
fills_of c = vec_items c.claim.now.fills

-- a member's total with what the fills add to it
abbrev pub due : List Row → List Fill → Side → UnitOf → ℕ → ℕ
due rows fills s u m = total s u (row_of rows m) + sum_of (adds s u m) fills

-- no total would pass the limit
abbrev pub Fits : List Row → List Fill → Type 0
Fits rows fills = (s : Side) (u : UnitOf) (m : ℕ) → m < 64 → due rows fills s u m ≤ limit

-- booking is refused exactly if some total would pass the limit
abbrev pub Answered : List Row → List Fill → Result (Unit {0}) Cause → Type 0
Answered rows fills (Ok _) = Fits rows fills
Answered rows fills (Err c) = (c ≡ LedgerFull) × (Fits rows fills → ⊥)

-- each total has what the fills add to it, and a refusal changes nothing
abbrev pub Booked : List Row → List Fill → List Row → Result (Unit {0}) Cause → Type 0
Booked rows fills after (Ok _) = (s : Side) (u : UnitOf) (m : ℕ) → m < 64 → total s u (row_of after m) ≡ due rows fills s u m
Booked rows fills after (Err _) = after ≡ rows

-- the rows that booking makes, all within the limit, or why it is refused
abbrev pub AddedUp : List Row → List Fill → Result (List Row) Cause → Type 0
AddedUp rows fills (Ok after) = Fits rows fills × Booked rows fills after (Ok tt) × (all_within after ≡ true)
AddedUp rows fills (Err c) = (c ≡ LedgerFull) × (Fits rows fills → ⊥)
