use Rattle.lineup.proofs.Mirror.{mirrored_read}
use Rattle.lineup.proofs.mirrored.MirroredPlaces.get.Goals as goal

pub returns : goal.returns
returns g c = mirrored_read _ _ _ _ c.len.ensures c.from_end.ensures _ _ c.get.ensures
