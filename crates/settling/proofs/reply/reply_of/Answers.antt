use Rattle.std.proofs.Common.{◌≡◌, length, take, vec_items, ap, ◌∙◌, subst, arith}
use Rattle.std.proofs.lemmas.List.{with_items_is, length-replicate}
use Rattle.venue.specs.Meaning.{Served, joined, outcome, reply_at}
use Rattle.settling.specs.Replies.{count_of, outcome_at}
use Rattle.settling.proofs.Replying.{dealt_fills}
use Rattle.settling.proofs.reply.reply_of.Goals as goal

pub returns : goal.returns
returns g c =
    let v = g.V.Venue.setup c.args.venue.now in
    let q = c.args.request in
    let lent = vec_items c.in_ok-fills.fills in
    let left = c.serve-outcome.new.fills in
    record {
      same = c.serve-outcome.ensures.same;
      replied = λ t s.
          let long : length lent ≡ v.capacity = ap length (c.in_ok-fills.ensures.items_if_clones_equal (λ y same. same)) ∙ length-replicate c.capacity.result _ ∙ c.capacity.ensures t s in
          let served : Served v (g.V.Venue.stands c.serve-outcome.new.self) t q lent left c.serve-outcome.result =
          simp c.as_mut_slice.ensures.value at (c.serve-outcome.ensures.served t s) in
          let answered : c.serve-outcome.result ≡ outcome_at v t q = served.answered ∙ ap (λ n. outcome (v.gate t q n) (reply_at v t q)) long in
          record {
            kept = c.keeps.ensures t s;
            answered = answered;
            dealt = c.truncate.ensures.items ∙ ap (take c.fill_count.result) (with_items_is c.in_ok-fills.fills left (omega arith)) ∙
                dealt_fills v t q lent c.fill_count.result left long (c.fill_count.ensures ∙ ap count_of answered) served.list;
            tape = subst (λ n. g.V.Venue.stands c.serve-outcome.new.self (joined (v.gate t q n) t q)) long served.tape;
          };
    }
