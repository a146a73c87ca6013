use Rattle.std.proofs.Common.{◌≡◌, ◌++◌, map, take, vec_items}
use Rattle.listing.specs.declared.line.Line.TheVariants.{Filled}
use Rattle.listing.proofs.lines.push_fills.Given as goal

abbrev pub invariant-loop-fill : goal.invariant-loop-fill
invariant-loop-fill l = vec_items l.lines ≡ vec_items l.initial.lines ++ map Filled (take l.fill-index l.counted)
