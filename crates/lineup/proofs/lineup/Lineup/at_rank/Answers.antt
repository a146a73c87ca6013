use Rattle.std.proofs.Common.{◌≡◌, ◌+◌, ◌-◌, sym, ◌∙◌, ⊎_elim, arith}
use Rattle.plain.specs.Book.{side}
use Rattle.lineup.specs.Lying.{count}
use Rattle.lineup.proofs.Laying.{gap_left}
use Rattle.lineup.proofs.Ranks.{ranked_none, ranked_past, ranked_at}
use Rattle.lineup.proofs.lineup.Lineup.at_rank.Goals as goal

pub returns-then-rank-eq0 : goal.returns-then-rank-eq0
returns-then-rank-eq0 g c b l =
    let counts = l.counts c.args.side in
    sym (⊎_elim (ranked_none _ (side c.args.side b)) (λ h. ranked_past _ (side c.args.side b) (omega arith)) c.then-rank-eq0.either)

pub returns : goal.returns
returns g c b l =
    let room = gap_left _ _ b l c.args.side in
    let place : c.saturating_sub.result ≡ (c.args.self.now.state.capacity - count c.args.side c.args.self.now.state) + (c.args.rank - 1) = omega (arith, c.saturating_sub.ensures, c.count-n.ensures.0, room) in
    c.get.ensures ∙ rw place (ranked_at _ _ b l c.args.side c.args.rank (omega arith))
