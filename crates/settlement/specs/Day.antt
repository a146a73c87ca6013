-- A file settled between the day's piles, from its bytes to the lines. Assumes nothing.
use Rattle.std.specs.Prelude.{ℕ, List, []}
use Rattle.ranking.specs.Rules.{time}
use Rattle.piles.specs.Day.{day_setup}
use Rattle.ledger.specs.declared.row.Row.{Row}
use Rattle.listing.specs.Records.{AllRead}
use Rattle.settling.specs.Items.{Item}
use Rattle.settlement.specs.declared.line.Line.{Line}
use Rattle.settlement.specs.Lines.{Listed}
use Rattle.settlement.specs.Totals.{Clear}

-- the records of the file were settled with no fault, each member's totals are the sums over all fills that they were dealt, and the lines are the standing by them
pub record DaySettled (file : List ℕ) (lines : List Line) : Type 0 where
  pub records : List Item
  pub rows : List Row
  pub read : AllRead file records
  pub settled : Clear (day_setup time 8) records rows []
  pub listed : Listed [] rows lines
