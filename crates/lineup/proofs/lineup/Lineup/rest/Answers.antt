use Rattle.std.proofs.Common.{◌+◌, ◌-◌, ap}
use Rattle.lineup.specs.Lying.{Recounted, count}
use Rattle.lineup.proofs.Rested.{rested}
use Rattle.lineup.proofs.lineup.Lineup.rest.Goals as goal

pub returns : goal.returns
returns g c =
    let s = c.args.self.now.state in
    let t = c.args.order.side in
    let more : Recounted t (count t s + 1) s c.recount.new.self = rw (← c.count-n.ensures.0, ← c.insert.ensures.kept) c.recount.ensures in
    record {
      recounted = λ room. more;
      lies = λ room b l. rested _ _ _ _ _ b _ (ap (λ n. s.capacity - n) c.count-n.ensures.0) l _ _ c.insertion_keeps_sequence.ensures _ room more c.insert.ensures.wrote;
    }
