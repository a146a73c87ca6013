use Rattle.std.proofs.Common.{sym, subst}
use Rattle.shelf.specs.Stands.{Handles}
use Rattle.shelf.proofs.shelf.Shelf.handle.Goals as goal

pub returns-in-Withdraw : goal.returns-in-Withdraw
returns-in-Withdraw g c =
    let fills = c.args.fills.now in
    subst (λ q. Handles g.L.Places.contents g.R.Ranking.ahead c.args.self.now c.withdraw.new.self q fills fills c.withdraw.result) (sym c.in-Withdraw.is) (c.withdraw.ensures fills)

pub returns-in-Halt : goal.returns-in-Halt
returns-in-Halt g c =
    let fills = c.args.fills.now in
    subst (λ q. Handles g.L.Places.contents g.R.Ranking.ahead c.args.self.now c.halt.new.self q fills fills c.halt.result) (sym c.in-Halt.is) (c.halt.ensures fills)
