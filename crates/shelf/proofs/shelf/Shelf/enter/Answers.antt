use Rattle.std.proofs.Common.{rules, refl, ap, ◌∙◌, subst}
use Rattle.std.proofs.lemmas.Result.{err_from_is_err_and}
use Rattle.shelf.specs.Entering.{left_of, Laid, entry_answer}
use Rattle.orders.specs.declared.answer.Answer.TheVariants.{Entered}
use Rattle.plain.specs.Rule.{with_remaining}
use Rattle.matching.specs.Deals.{DealtNow}
use Rattle.shelf.proofs.ServedEntry.{entry_not}
use Rattle.shelf.proofs.DealtEntry.{now_length, entry_dealt}
use Rattle.shelf.proofs.shelf.Shelf.enter.Goals as goal

pub returns-in_err-map_err : goal.returns-in_err-map_err
returns-in_err-map_err g c =
    let p = err_from_is_err_and c.from_residual.result c.from_residual.ensures.1 in
    record {
      same = record { same_rule = refl; same_places = refl };
      served = λ t s. rw (p.1, p.2) (entry_not t s c.args.e.now c.args.fills.now c.in_err-map_err.field-0.0 (search rules) (search rules));
    }

pub returns : goal.returns
returns g c =
    let e = c.args.e.now in
    let ps = g.L.Places.contents c.args.self.now.list in
    let phase = c.args.self.now.phase in
    let next = c.args.self.now.next in
    let rule = g.R.Ranking.ahead c.args.self.now.rule in
    let lent = c.args.fills.now in
    let list = c.deal_entry-tally.new.fills in
    let qs = g.L.Places.contents c.deal_entry-tally.new.list in
    let rs = g.L.Places.contents c.lay.new.list in
    let r = c.deal_entry-tally.result in
    let o = left_of e next e.quantity in
    let dealt : DealtNow rule phase o ps lent qs list r = subst (λ x. DealtNow rule phase x ps lent qs list r) c.order-order.ensures c.deal_entry-tally.ensures in
    let laid : Laid e.life (left_of e next r.left) qs rs =
    subst (λ l. Laid l (left_of e next r.left) qs rs) c.life.ensures (subst (λ x. Laid c.life.result (with_remaining x r.left) qs rs) c.order-order.ensures c.lay.ensures.laid) in
    record {
      same = record { same_rule = refl; same_places = laid.same_length ∙ now_length rule phase o ps lent qs list r dealt };
      served = λ t s.
          entry_dealt t s e lent list (search rules) qs r dealt rs (Entered c.of-entered.result) laid
          (ap (λ a. Entered a) c.of-entered.ensures ∙ ap (λ k. entry_answer e next k r.left) c.counted.ensures);
    }
