use Rattle.std.proofs.Common.{◌-◌, subst, arith}
use Rattle.lineup.specs.Lying.{Recounted, count}
use Rattle.lineup.proofs.Rested.{taken_out}
use Rattle.lineup.proofs.lineup.Lineup.take_out.Goals as goal

pub returns : goal.returns
returns g c =
    let s = c.args.self.now.state in
    let t = c.args.side in
    let less : Recounted t (count t s - 1) s c.recount.new.self =
    subst (λ n. Recounted t n s c.recount.new.self) (omega arith) (subst (λ r. Recounted t c.saturating_sub.result r c.recount.new.self) c.remove.ensures.kept c.recount.ensures) in
    record {
      recounted = less;
      lies = λ b d earlier o later l is at own others phase next.
          taken_out _ _ _ _ _ b _ c.start-first.ensures l d earlier o later _ less is (omega arith) c.remove.ensures.wrote own others phase next;
    }
