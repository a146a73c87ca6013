use Rattle.std.proofs.Common.{arith}
use Rattle.ranked.proofs.Opening.{opened}
use Rattle.ranked.proofs.book.open.Goals as goal

pub returns : goal.returns
returns g c = opened _ c.is_lawful.ensures _ _ c.len-capacity.ensures (omega arith) (omega arith) _ c.vacant.ensures.1 c.vacant.ensures.0
