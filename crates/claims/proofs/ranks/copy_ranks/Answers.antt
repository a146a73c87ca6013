use Rattle.std.proofs.Common.{take, ap, ◌∙◌, arith}
use Rattle.std.proofs.lemmas.List.{set-get_or}
use Rattle.claims.specs.Ranks.{side_at}
use Rattle.claims.proofs.Ranked.{copied_more, copied_none}
use Rattle.claims.proofs.ranks.copy_ranks.Goals as goal

pub returns-in-None : goal.returns-in-None
returns-in-None g c = record {
  copied = λ t s. ap (take c.loop-i.i) (set-get_or c.loop-i.list c.loop-i.i _) ∙ copied_none (side_at (g.V.Venue.setup c.args.venue.now) t c.args.side) c.loop-i.list c.loop-i.i (c.loop-i.invariant t s) _ (omega arith) (c.in-None.ensures t s);
  few = omega arith;
}

pub loop-i-preserved : goal.loop-i-preserved
loop-i-preserved g c = λ t s.
    copied_more (side_at (g.V.Venue.setup c.args.venue.now) t c.args.side) c.loop-i.list c.loop-i.i (c.loop-i.invariant t s) c.in-Some.o (omega arith) (c.in-Some.ensures t s)
