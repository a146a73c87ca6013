use Rattle.std.proofs.Common.{◌+◌, sym, ap, ◌∙◌}
use Rattle.foreign.specs.Relays.{raised}
use Rattle.foreign.proofs.Admitting.{one_more}
use Rattle.foreign.proofs.counting.CountingVenue.serve.Goals as goal

pub returns : goal.returns
returns g c =
    let self = c.args.self.now in
    let same = c.serve.ensures.same in
    record {
      same = ap (raised self.height) same;
      served = λ t s.
          let below = c.serve.ensures.served t s.stands_below in
          let was = sym c.in_ok-answer.was ∙ below.answered in
          record {
            answered = was;
            list = below.list;
            tape = one_more _ self.height _ self.admitted _ t c.args.request (s.one_higher ∙ ap (λ v. v.height + 1) (sym same)) s.counted c.saturating_add-self.ensures _ _ _ was below.tape;
          };
    }
