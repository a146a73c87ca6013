use Rattle.plain.proofs.Matched.{fills_are_the_one_list}
use Rattle.plain.proofs.fills_are_the_one_list.Goals as goal

pub returns : goal.returns
returns c = fills_are_the_one_list
