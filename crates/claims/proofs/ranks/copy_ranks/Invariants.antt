use Rattle.plain.specs.Book.{Tape}
use Rattle.claims.specs.Ranks.{side_at}
use Rattle.claims.proofs.Ranked.{Copied}
use Rattle.claims.proofs.ranks.copy_ranks.Given as goal

abbrev pub invariant-loop-i : goal.invariant-loop-i
invariant-loop-i g l = (t : Tape) → g.V.Venue.stands l.venue t → Copied (side_at (g.V.Venue.setup l.venue) t l.side) l.list l.i
