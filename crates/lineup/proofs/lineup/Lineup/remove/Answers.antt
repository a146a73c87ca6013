use Rattle.std.proofs.Common.{refl}
use Rattle.lineup.proofs.lineup.Lineup.remove.Goals as goal

pub returns-in-Buy : goal.returns-in-Buy
returns-in-Buy g c = record { wrote = rw c.in-Buy.is c.remove_at-in-Buy.ensures; kept = refl }
