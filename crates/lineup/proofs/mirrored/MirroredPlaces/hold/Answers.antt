use Rattle.lineup.proofs.Mirror.{mirrored_write}
use Rattle.lineup.proofs.mirrored.MirroredPlaces.hold.Goals as goal

pub returns : goal.returns
returns g c = mirrored_write _ _ _ _ c.len.ensures c.from_end-place.ensures _ _ c.hold.ensures
