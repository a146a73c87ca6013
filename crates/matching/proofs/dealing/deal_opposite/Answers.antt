use Rattle.std.proofs.Common.{slice_set, ap, ◌∙◌}
use Rattle.orders.specs.Entries.{taken}
use Rattle.matching.specs.Deals.{reduced}
use Rattle.matching.proofs.dealing.deal_opposite.Goals as goal

pub returns : goal.returns
returns g c =
    let ps = g.L.Places.contents c.args.list.now in
    let quantity = c.min-quantity.ensures in
    record {
      found = (c.in_ok-i.i, c.in_ok-i.x);
      first = c.in_ok-i.ensures;
      fill_is = c.taken.ensures ∙ ap (taken c.args.o.now.side c.args.o.now c.in_ok-i.x) quantity;
      places_are = c.put.ensures ∙ ap (slice_set ps c.in_ok-i.i) (c.reduced_by.ensures ∙ ap (reduced c.in_ok-i.x) quantity);
    }
