use Rattle.plain.specs.Book.{after}
use Rattle.plain.proofs.StaysSound.{always_sound}
use Rattle.shelf.proofs.Ranks.{ranked_shown}
use Rattle.shelf.proofs.shelf.ShelfVenue.order_at.Goals as goal

pub returns : goal.returns
returns g c = λ t s.
    let rule = g.R.Ranking.ahead c.args.self.now.rule in
    ranked_shown s.lawful (g.L.Places.contents c.args.self.now.list) (after rule t) (always_sound rule s.lawful t) s.shows.orders c.args.side c.args.rank c.with_ahead.result c.with_ahead.ensures
