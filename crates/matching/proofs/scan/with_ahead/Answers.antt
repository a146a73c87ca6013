use Rattle.std.proofs.Common.{rules, ◌≡◌, ◌+◌, sym, ap, ◌∙◌, arith}
use Rattle.std.proofs.lemmas.Option.{same_Some}
use Rattle.orders.specs.declared.order.Order.{Order}
use Rattle.matching.specs.Weights.{held_weight}
use Rattle.matching.specs.Scans.{ahead_of, HasRank}
use Rattle.matching.proofs.Alike.{same_side_lem}
use Rattle.matching.proofs.Seen.{seen_one, seen_more}
use Rattle.matching.proofs.scan.with_ahead.Goals as goal
use Rattle.matching.proofs.scan.with_ahead.Goals.{else-eq-via-then-eq+else-count_ahead-ahead, else-eq-via-else-eq}

pub returns-then-count_ahead-ahead : goal.returns-then-count_ahead-ahead
returns-then-count_ahead-ahead g c =
    let ps = g.L.Places.contents c.args.list.now in
    let wanted = HasRank (g.R.Ranking.ahead c.args.rule.now) c.args.side c.args.rank ps in
    (seen_one wanted ps c.in-Some-place.o _ (rw (c.in-Some.ensures.steps.1.5, c.in-Some-place.is) at c.loop-place.invariant), (search rules, search rules))

pub loop-place-preserved-else-eq : goal.loop-place-preserved-else-eq
loop-place-preserved-else-eq g c =
    let ps = g.L.Places.contents c.args.list.now in
    let wanted = HasRank (g.R.Ranking.ahead c.args.rule.now) c.args.side c.args.rank ps in
    seen_more wanted ps c.in-Some.place _ (rw c.in-Some.ensures.steps.1.5 at c.loop-place.invariant)
    (λ y is ranked.
    let same = same_Some _ _ (sym c.in-Some-place.is ∙ is) in
    elim c.else-eq.branch [
      | else-eq-via-then-eq+else-count_ahead-ahead w ↦
          let one_less : c.in_ok-ahead.ahead + 1 ≡ c.args.rank = search rules in
          w.if-count_ahead-ahead.false (omega (arith, one_less, w.count_ahead.ensures, ranked.1, ap (λ z. held_weight (ahead_of (g.R.Ranking.ahead c.args.rule.now) z) ps) same))
      | else-eq-via-else-eq w ↦
          let of_side : c.in-Some-place.o.side ≡ c.args.side = ap (λ (o : Order). o.side) same ∙ sym (same_side_lem c.args.side y.side ranked.0) in
          absurd (search rules)
    ])

pub loop-place-preserved : goal.loop-place-preserved
loop-place-preserved g c =
    let ps = g.L.Places.contents c.args.list.now in
    seen_more (HasRank (g.R.Ranking.ahead c.args.rule.now) c.args.side c.args.rank ps) ps c.in-Some.place _ (rw c.in-Some.ensures.steps.1.5 at c.loop-place.invariant)
    (λ y is _. c.in_default.not-Some y is)
