use Rattle.plain.proofs.Matched.{call_price_is_best}
use Rattle.plain.proofs.call_price_is_best.Goals as goal

pub returns : goal.returns
returns c = call_price_is_best
