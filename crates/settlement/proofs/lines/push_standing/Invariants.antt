use Rattle.std.proofs.Common.{◌≡◌, ◌+◌, ◌++◌, drop, vec_items}
use Rattle.settlement.proofs.Ranks.{place_lines}
use Rattle.settlement.proofs.lines.push_standing.Given as goal

-- the lines so far, with those that the rest of the places will have, are all lines
abbrev pub invariant-loop-i : goal.invariant-loop-i
invariant-loop-i l = vec_items l.lines ++ place_lines (l.i-iterator.next + 1) (drop l.i-iterator.next l.i-iterator.list.now.places) ≡ vec_items l.initial.lines ++ place_lines 1 l.initial.i-iterator.list.now.places
