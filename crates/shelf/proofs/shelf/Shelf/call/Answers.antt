use Rattle.std.proofs.Common.{rules, refl}
use Rattle.shelf.proofs.ServedCall.{call_so}
use Rattle.matching.proofs.RunsOut.{run_length}
use Rattle.shelf.proofs.shelf.Shelf.call.Goals as goal

pub returns : goal.returns
returns g c =
    let dealt = c.deal_call-tally.ensures in
    record {
      same = record { same_rule = refl; same_places = run_length dealt.run_to.run };
      served = λ t s.
          call_so t s c.args.fills.now (search rules) (g.L.Places.contents c.deal_call-tally.new.list) c.deal_call-tally.new.fills c.deal_call-tally.result
          c.best_quote-best.result c.called_price-price.result c.counted.result c.best_quote-best.ensures c.called_price-price.ensures c.counted.ensures dealt;
    }
