use Rattle.lineup.proofs.Removing.{RemovingFrom}
use Rattle.lineup.proofs.moves.remove_at.Given as goal

abbrev pub invariant-loop-j : goal.invariant-loop-j
invariant-loop-j g l = RemovingFrom l.start l.i (g.L.Places.contents l.initial.list) l.j l.carried (g.L.Places.contents l.list)
