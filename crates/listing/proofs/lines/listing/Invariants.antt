use Rattle.std.proofs.Common.{◌≡◌, ◌+◌, ◌++◌, drop, vec_items}
use Rattle.std.specs.Slice.Iter.{iter_rest}
use Rattle.listing.specs.Lines.{record_lines}
use Rattle.listing.proofs.lines.listing.Given as goal

-- the lines so far, with those that the rest of the records will have, are all lines
abbrev pub invariant-loop-i : goal.invariant-loop-i
invariant-loop-i l =
    vec_items l.lines ++ record_lines (l.i + 1) (drop l.i l.records) (iter_rest l.left) ≡ record_lines 1 l.records l.steps
