use Rattle.shelf.proofs.Room.{room_told}
use Rattle.shelf.proofs.shelf.Shelf.is_full.Goals as goal

pub returns : goal.returns
returns g c = room_told (g.L.Places.contents c.args.self.now.list) c.vacant.result c.is_none.result c.vacant.ensures c.is_none.ensures
