use Rattle.std.proofs.Common.{take, vec_items}
use Rattle.listing.specs.Records.{Prepared}
use Rattle.listing.proofs.records.steps_for.Given as goal

abbrev pub invariant-loop-item : goal.invariant-loop-item
invariant-loop-item l = Prepared l.places (take l.item-index l.records) (vec_items l.steps)
