use Rattle.std.proofs.Common.{[], sym, ap, ◌∙◌, append-nil}
use Rattle.plain.specs.Orders.{find}
use Rattle.lineup.proofs.Finding.{find_append, stood_first}
use Rattle.lineup.proofs.lineup.Lineup.spot.Goals as goal

pub returns-in-Some : goal.returns-in-Some
returns-in-Some g c b l =
    let stood = c.in-Some.ensures b l in
    record { stood = stood; first = stood_first _ _ _ _ _ stood b.sells; not_bought = λ e. cc }

pub returns : goal.returns
returns g c b l =
    let none = c.in_default.ensures b l in
    let stood = c.in_ok-place.ensures b l in
    record {
      stood = stood;
      first = find_append _ b.buys b.sells none ∙ ap (find c.args.number) (sym (append-nil b.sells)) ∙ stood_first _ _ _ _ _ stood [];
      not_bought = λ e. none;
    }

pub returns-in_err-place : goal.returns-in_err-place
returns-in_err-place g c b l =
    rw c.from_residual.ensures (find_append _ b.buys b.sells (c.in_default.ensures b l) ∙ c.in_err-place.ensures b l)
