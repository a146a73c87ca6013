use Rattle.std.proofs.Common.{vec_items}
use Rattle.listing.proofs.Onward.{ReadSoFar}
use Rattle.listing.proofs.records.read_records.Given as goal

abbrev pub invariant-loop-item : goal.invariant-loop-item
invariant-loop-item l = ReadSoFar l.file l.item-iterator.file.now l.item-iterator.position (vec_items l.records)
