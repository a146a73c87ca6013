use Rattle.std.proofs.Common.{length, ap, ◌∙◌, arith}
use Rattle.std.proofs.lemmas.List.{length-replicate}
use Rattle.venue.specs.Meaning.{book_setup}
use Rattle.shelf.proofs.Starts.{stands_new}
use Rattle.shelf.proofs.shelf.Shelf.over.Goals as goal

pub returns : goal.returns
returns g c =
    let rule = g.R.Ranking.ahead c.args.rule in
    let n = length (g.L.Places.contents c.args.list) in
    record {
      fit = omega arith;
      plain = ap (book_setup rule) (ap length c.clear.ensures ∙ length-replicate n _);
      fresh = rw c.clear.ensures (stands_new rule c.is_lawful.ensures n (omega arith) (omega arith));
    }
