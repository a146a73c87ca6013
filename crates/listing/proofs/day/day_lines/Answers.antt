use Rattle.std.proofs.Common.{vec_items, ap, ◌∙◌, subst, arith}
use Rattle.std.proofs.lemmas.List.{with_items_is}
use Rattle.std.proofs.lemmas.Result.{IfOk-weaker}
use Rattle.piles.specs.Day.{day_setup, DayRun}
use Rattle.listing.specs.Lines.{listing}
use Rattle.listing.specs.Records.{Prepared}
use Rattle.listing.proofs.day.day_lines.Goals as goal

pub returns : goal.returns
returns g c =
    let records = vec_items c.in_ok-records.records in
    let steps = c.in_ok-steps.steps in
    let answered = c.deal.new.steps in
    let held = c.as_slice-3.ensures.value ∙ with_items_is steps answered (omega arith) in
    IfOk-weaker c.listing.result _ _
    (λ v lines. record {
      records = records;
      sent = vec_items steps;
      answered = answered;
      read = c.in_ok-records.ensures;
      prepared = subst (λ rs. Prepared 8 rs (vec_items steps)) c.as_slice.ensures.value c.in_ok-steps.ensures;
      ran = subst (λ ss. DayRun (day_setup (g.R.Ranking.ahead c.args.rule) 8) ss answered) c.as_mut_slice.ensures.value c.deal.ensures;
      listed = lines ∙ ap (λ rs. listing rs c.as_slice-3.result.now) c.as_slice-2.ensures.value ∙ ap (listing records) held;
    })
    c.listing.ensures
