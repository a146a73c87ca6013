use Rattle.std.proofs.Common.{◌≡◌, slice_set, refl, ap, ◌∙◌}
use Rattle.plain.specs.Dealing.{fill}
use Rattle.matching.specs.Deals.{reduced, crossing}
use Rattle.matching.proofs.dealing.deal_pair.Goals as goal

pub returns : goal.returns
returns g c =
    let ps = g.L.Places.contents c.args.list.now in
    let buy = c.in_ok-i.buy in
    let sell = c.in_ok-k.sell in
    let quantity : c.min-quantity.result ≡ crossing c.args.left buy sell = rw c.min-quantity.ensures (rw c.min.ensures refl) in
    let without_buy = c.put.ensures ∙ ap (slice_set ps c.in_ok-i.i) (c.reduced_by.ensures ∙ ap (reduced buy) quantity) in
    record {
      buy = (c.in_ok-i.i, buy);
      sell = (c.in_ok-k.k, sell);
      first_buy = c.in_ok-i.ensures;
      first_sell = c.in_ok-k.ensures;
      fill_is = c.between.ensures ∙ ap (fill (λ _ _. c.args.price) buy sell) quantity;
      places_are = c.put-2.ensures ∙ (ap (λ qs. slice_set qs c.in_ok-k.k c.reduced_by-2.result) without_buy ∙
          ap (slice_set (slice_set ps c.in_ok-i.i (reduced buy (crossing c.args.left buy sell))) c.in_ok-k.k) (c.reduced_by-2.ensures ∙ ap (reduced sell) quantity));
    }
