use Rattle.std.proofs.Common.{◌∙◌, arith}
use Rattle.lineup.proofs.Ranks.{best_none}
use Rattle.ranked.proofs.Crosses.{bought_lies, crosses, no_buys, no_sells}
use Rattle.ranked.proofs.cross.cross.Goals as goal

pub returns-in_err-sell-clause-taken : goal.returns-in_err-sell-clause-taken
returns-in_err-sell-clause-taken g c b l = rw c.from_residual.ensures (no_sells b (best_none b.sells (c.in_err-sell.ensures b l)))

pub returns-in_err-bought-clause-taken : goal.returns-in_err-bought-clause-taken
returns-in_err-bought-clause-taken g c b l = rw c.from_residual-in_err-bought.ensures (no_buys b (c.in_err-bought.ensures.taken b l).0)

pub returns-in_err-sold : goal.returns-in_err-sold
returns-in_err-sold g c = rw c.from_residual-in_err-sold.ensures (record {
  few = (c.in_err-sold.ensures.few.0 ∙ c.in_ok-bought.ensures.few.0, tt);
  taken = λ b l.
      let bought = c.in_ok-bought.ensures.taken b l in
      let best = c.in_ok-sell.ensures b l in
      no_sells b (c.in_err-sold.ensures.taken _ (bought_lies c.args.price c.args.n _ b _ best _ _ _ bought)).0;
})

pub returns : goal.returns
returns g c =
    let bought = c.in_ok-bought.ensures.few in
    let sold = c.in_ok-sold.ensures.few in
    let least = c.min.ensures in
    record {
      few = (sold.0 ∙ bought.0, rw c.between.ensures (omega arith));
      taken = λ b l.
          let buying = c.in_ok-bought.ensures.taken b l in
          let best = c.in_ok-sell.ensures b l in
          crosses _ _ _ b _ best _ _ _ buying least _ _ _ (c.in_ok-sold.ensures.taken _ (bought_lies c.args.price c.args.n _ b _ best _ _ _ buying)) _ c.between.ensures;
    }
