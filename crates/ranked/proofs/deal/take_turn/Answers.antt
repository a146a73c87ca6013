use Rattle.std.proofs.Common.{[], refl, ◌∙◌, ap, arith}
use Rattle.std.proofs.lemmas.Bool.{cond-true, cond-false, le-leb, lt-leb}
use Rattle.lineup.proofs.Ranks.{best_none, best_some}
use Rattle.lineup.proofs.Rested.{both_counts}
use Rattle.ranked.proofs.deal.take_turn.Goals as goal

pub returns-in_err-order-clause-taken : goal.returns-in_err-order-clause-taken
returns-in_err-order-clause-taken g c b l = rw c.from_residual.ensures (best_none _ (c.in_err-order.ensures b l), refl, refl)

pub returns-then-n-order : goal.returns-then-n-order
returns-then-n-order g c =
    let kept = c.reduce.ensures.kept in
    record {
      few = (ap (λ s. s.capacity) kept, rw kept (omega arith), omega arith);
      taken = λ b l.
          let best = best_some _ _ (c.in_ok-order.ensures b l) in
          record {
            later = best.0;
            are = best.1;
            tonnes_are = omega arith;
            lies = λ d own others phase next. c.reduce.ensures.lies b d best.0 l best.1 (own ∙ cond-false _ _ _ (lt-leb _ _ c.if-n-order.true)) others phase next;
          };
    }

pub returns : goal.returns
returns g c =
    let r = c.take_out.ensures.recounted in
    let before = both_counts c.args.side c.args.lineup.now.state in
    let after = both_counts c.args.side c.take_out.new.self.state in
    record {
      few = (r.capacity, omega arith, c.if-n-order.false);
      taken = λ b l.
          let best = best_some _ _ (c.in_ok-order.ensures b l) in
          record {
            later = best.0;
            are = best.1;
            tonnes_are = omega arith;
            lies = λ d own others phase next.
                c.take_out.ensures.lies b d [] _ best.0 l best.1 (omega arith) (own ∙ cond-true _ _ _ (le-leb _ _ c.if-n-order.false)) others phase next;
          };
    }
