use Rattle.std.proofs.Common.{◌∙◌, arith}
use Rattle.lineup.proofs.Removing.{removing_more, removing_all}
use Rattle.lineup.proofs.moves.remove_at.Goals as goal

pub loop-j-preserved : goal.loop-j-preserved
loop-j-preserved g c front ps y qs at to are =
    rw (c.get-next.ensures, c.put.ensures) (removing_more _ _ _ _ _ _ c.loop-j-test.true (c.loop-j.invariant front ps y qs at to are))

pub returns : goal.returns
returns g c front ps y qs at to are = c.put-2.ensures ∙ removing_all _ _ _ _ _ (omega arith) (c.loop-j.invariant front ps y qs at to are)
