-- The lines of a settlement. Assumes nothing.
use Rattle.std.specs.Prelude.{◌≡◌, ℕ, ◌+◌, Bool, cond, ◌&&◌, List, [], ◌∷◌, ◌++◌, map, ◌==◌, Option, None, Some}
use Rattle.ledger.specs.declared.row.Row.{Row}
use Rattle.ledger.specs.declared.standing.Standing.{Standing}
use Rattle.ledger.specs.Rows.{SumOfRows}
use Rattle.ledger.specs.Ranks.{Ranked}
use Rattle.settling.specs.declared.fault.Noted.{Noted}
use Rattle.settlement.specs.declared.line.Line.{Line}
use Rattle.settlement.specs.declared.line.Line.TheVariants.{Wrong, Member, Total}

-- a member who neither bought nor sold
abbrev pub is_idle : Row → Bool
is_idle r = r.bought == 0 && r.sold == 0

-- the line of a member at a rank: none of one who is idle
abbrev pub member_line : ℕ → Standing → List Line
member_line rank s = cond (is_idle s.row) [] (Member rank s ∷ [])

abbrev pub place_line : ℕ → Option Standing → List Line
place_line rank None = []
place_line rank (Some s) = member_line rank s

-- the lines of members, ranked on from a number: an idle member has his rank too
abbrev pub member_lines : ℕ → List Standing → List Line
member_lines rank [] = []
member_lines rank (s ∷ ss) = member_line rank s ++ member_lines (rank + 1) ss

-- the standing by the rows, after lines that there are already: the members by rank, and the sums over all of them
pub record StandingLines (rows : List Row) (before lines : List Line) : Type 0 where
  pub members : List Standing
  pub sum : Row
  pub ranked : Ranked rows 64 members
  pub sums : SumOfRows 64 rows sum
  pub are : lines ≡ before ++ (member_lines 1 members ++ (Total sum ∷ []))

-- all lines after the first: a line for each fault, and the standing
abbrev pub Listed : List Noted → List Row → List Line → Type 0
Listed notes rows lines = StandingLines rows (map Wrong notes) lines
